-- The text of a header (ISO C11, clause 6.10.3; the layout is this project's).
use Rattle.std.specs.Prelude.{ℕ, ◌+◌, ◌-◌, ◌^◌, ◌==◌, cond, false, nat_lt, List, [], ◌∷◌, ◌++◌, codes, decimal, flat_map, length, take}
use Rattle.std.specs.Fmt.{digits}
use Rattle.std.specs.List.{enumerate_from}
use Rattle.encodings.specs.Encodings.{Enumeration, Enumerations}
use Rattle.rb_model.specs.declared.block.Block.{Block}
use Rattle.word_groups.specs.declared.parts.Part.{Part}
use Rattle.word_groups.specs.declared.entries.Entry.{Entry}
use Rattle.word_groups.specs.Arrays.{entries}
use Rattle.c_header.specs.Enumerators.{enumerator_naturals, own_macros, user_path}
use Rattle.c_header.specs.Macros.{Macro, Value, Count, Number, Offset, part_base, part_macros, part_naturals, word_base, word_macros, word_naturals}
use Rattle.c_header.specs.Names.{first_bytes, name_among, prefix}
use Rattle.word_groups.specs.Paths.{shown}

-- lower case hexadecimal digits, as many at least
abbrev pub padded : ℕ → ℕ → List ℕ
padded width n = take (width - length (digits 16 false n)) (codes "0000000000000000") ++ digits 16 false n

abbrev pub constant : ℕ → List ℕ
constant n = cond (nat_lt n (2 ^ 32)) (codes "UINT32_C(0x" ++ padded 8 n) (codes "UINT64_C(0x" ++ padded 16 n) ++ codes ")"

abbrev pub parameter : ℕ → List ℕ
parameter k = codes "i" ++ decimal k

abbrev pub comma : ℕ → List ℕ
comma k = cond (k == 0) [] (codes ", ")

abbrev pub parameters : List ℕ → List ℕ
parameters strides = flat_map (λ k. comma k.0 ++ parameter k.0) (enumerate_from 0 strides)

abbrev pub addend : ℕ × ℕ → List ℕ
addend k = codes " + " ++ constant k.1 ++ codes " * (" ++ parameter k.0 ++ codes ")"

abbrev pub addends : List ℕ → List ℕ
addends strides = flat_map addend (enumerate_from 0 strides)

-- ` ..`, or `(i0, i1) (.. + .. * (i0) + .. * (i1))`
abbrev pub offset_text : ℕ → List ℕ → List ℕ
offset_text n [] = codes " " ++ constant n
offset_text n (s ∷ ss) = codes "(" ++ parameters (s ∷ ss) ++ codes ") (" ++ constant n ++ addends (s ∷ ss) ++ codes ")"

abbrev pub value_text : Value → List ℕ
value_text (Count n) = codes " " ++ decimal n
value_text (Number n) = codes " " ++ constant n
value_text (Offset n strides) = offset_text n strides

abbrev pub line : Macro → List ℕ
line m = codes "#define " ++ m.name ++ value_text m.value ++ codes "\n"

abbrev pub lines : List Macro → List ℕ
lines ms = flat_map line ms

abbrev pub comment : List ℕ → List ℕ
comment text = codes "/* " ++ text ++ codes " */\n"

abbrev pub part_comment : Part → List ℕ
part_comment p = comment (p.name ++ codes " [" ++ decimal (p.low + p.bits - 1) ++ codes ":" ++ decimal p.low ++ codes "] " ++ p.access)

abbrev pub part_text : List ℕ → List (List ℕ) → Entry → Part → List ℕ
part_text begin naturals u p = part_comment p ++ lines (part_macros (name_among naturals (part_base begin u p)) p)

abbrev pub word_comment : Entry → List ℕ
word_comment u = codes "\n" ++ comment (shown u.path u.lengths ++ codes " word " ++ decimal u.number)

abbrev pub entry_text : List ℕ → (words parts : List (List ℕ)) → Entry → List ℕ
entry_text begin words parts u = word_comment u ++ lines (word_macros (name_among words (word_base begin u)) u) ++ flat_map (part_text begin parts u) u.parts

abbrev pub guard : (begin : List ℕ) → List ℕ
guard begin = begin ++ codes "_REGS_H"

abbrev pub title : List ℕ → List ℕ
title top = comment (codes "Registers of " ++ first_bytes top)

abbrev pub guard_lines : List ℕ → List ℕ
guard_lines begin = codes "#ifndef " ++ guard begin ++ codes "\n#define " ++ guard begin ++ codes "\n\n"

-- what makes constants of numbers, in C, in C++ and in the assembler
abbrev pub language_lines : List ℕ
language_lines = codes "#ifdef __ASSEMBLER__\n#define UINT32_C(number) number\n#define UINT64_C(number) number\n#else\n#include <limits.h>\n#include <stdint.h>\n#if CHAR_BIT != 8\n#error \"offsets count bytes of 8 bits\"\n#endif\n#endif\n"

abbrev pub first_lines : (top begin : List ℕ) → List ℕ
first_lines top begin = title top ++ guard_lines begin ++ language_lines

abbrev pub entry_texts : List ℕ → List Entry → List ℕ
entry_texts begin us = flat_map (entry_text begin (word_naturals begin us) (part_naturals begin us)) us

abbrev pub enumeration_comment : Block → Enumeration → List ℕ
enumeration_comment b e = codes "\n" ++ comment (codes "enum " ++ e.name ++ codes " of " ++ shown (user_path b e) [])

abbrev pub enumeration_text : Block → List ℕ → (naturals : List (List ℕ)) → Enumeration → List ℕ
enumeration_text b begin naturals e = enumeration_comment b e ++ lines (own_macros b begin naturals e)

abbrev pub enumeration_texts : Block → List ℕ → List Enumeration → List ℕ
enumeration_texts b begin es = flat_map (enumeration_text b begin (enumerator_naturals begin es)) es

abbrev pub header_text : (top begin : List ℕ) → List Entry → (enumerations : List ℕ) → List ℕ
header_text top begin us enumerations = first_lines top begin ++ entry_texts begin us ++ enumerations ++ codes "\n#endif\n"

abbrev pub header : Block → Enumerations → List ℕ
header b es = header_text b.name (prefix b.name) (entries b) (enumeration_texts b (prefix b.name) es.list)
