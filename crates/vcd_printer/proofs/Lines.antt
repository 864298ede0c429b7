-- The lines of a dump as pieces.
use Rattle.std.specs.Fmt.{decimal}
use Rattle.std.specs.List.{enumerate_from, flat_map, join_with_byte, zip}
use Rattle.std.proofs.Common.{◌≡◌, ◌≢◌, ℕ, ◌+◌, ◌-◌, ◌*◌, ◌<◌, ◌≤◌, ◌==◌, nat_lt, Bool, true, false, if◌then◌else◌, List, [], ◌∷◌, ◌++◌, Option, Some, None, codes, map, refl, ap, sym, ◌∙◌, arith, append_assoc, append-nil}
use Rattle.std.proofs.lemmas.Bool.Decides.{nat_tests}
use Rattle.std.proofs.lemmas.Grind.{flat_map-append}
use Rattle.std.proofs.lemmas.List.Folds.{flat_map-map}
use Rattle.rb_base.specs.declared.ports.Pin.{Pin}
use Rattle.vcd_syntax.specs.Dump.{Line, line_text, lines_text, end, code, binary, range_words, var_line, head_text, change_line, all_lines, changed_lines, time_line, vector_text}

-- each word behind a space
abbrev pub behind : Line → List ℕ
behind words = flat_map (λ word. 32 ∷ word) words

joined : (w : List ℕ) (ws : Line) → join_with_byte 32 (w ∷ ws) ≡ w ++ behind ws
joined w [] = sym (append-nil w)
joined w (v ∷ vs) = ap (λ l. w ++ 32 ∷ l) (joined v vs)

-- a line by its first word
pub line_of : (w : List ℕ) (ws : Line) → w ++ (behind ws ++ 10 ∷ []) ≡ line_text (w ∷ ws)
line_of w ws = sym (append_assoc w (behind ws) (10 ∷ [])) ∙ ap (λ l. l ++ 10 ∷ []) (sym (joined w ws))

not_above : (width : ℕ) → width ≤ 1 → nat_lt 1 width ≡ false
not_above width p = grind (arith, nat_tests)

above : (width : ℕ) → 1 < width → nat_lt 1 width ≡ true
above width p = grind (arith, nat_tests)

abbrev range_by : (b : Bool) (width : ℕ) → List ℕ
range_by b width = behind ((if b then (codes "[" ++ (decimal (width - 1) ++ codes ":0]")) ∷ [] else []) ++ end ∷ []) ++ 10 ∷ []

pub no_range : (width : ℕ) → width ≤ 1 → codes " $end\n" ≡ behind (range_words width ++ end ∷ []) ++ 10 ∷ []
no_range width p = ap (λ b. range_by b width) (sym (not_above width p))

ranged : (w : List ℕ) → codes " [" ++ (w ++ (codes ":0] $end\n" ++ [])) ≡ behind ((codes "[" ++ (w ++ codes ":0]")) ∷ end ∷ []) ++ 10 ∷ []
ranged w = simp append_assoc

pub some_range : (width : ℕ) → 1 < width → codes " [" ++ (decimal (width - 1) ++ (codes ":0] $end\n" ++ [])) ≡ behind (range_words width ++ end ∷ []) ++ 10 ∷ []
some_range width p = ranged (decimal (width - 1)) ∙ ap (λ b. range_by b width) (sym (above width p))

declared : (w c n r : List ℕ) → (codes "$var wire " ++ (w ++ (codes " " ++ (c ++ (codes " " ++ (n ++ [])))))) ++ (r ++ 10 ∷ []) ≡ (codes "$var" ++ 32 ∷ (codes "wire" ++ 32 ∷ (w ++ 32 ∷ (c ++ 32 ∷ (n ++ r))))) ++ 10 ∷ []
declared w c n r = simp (append_assoc, append-nil)

-- the declaration of a pin as far as its name
abbrev pub front : (width code name : List ℕ) → List ℕ
front w c n = codes "$var wire " ++ (w ++ (codes " " ++ (c ++ (codes " " ++ (n ++ [])))))

pub var_text : (k : ℕ) (p : Pin) → front (decimal p.width) (code k) p.name ++ (behind (range_words p.width ++ end ∷ []) ++ 10 ∷ []) ≡ line_text (var_line (k, p))
var_text k p =
    declared (decimal p.width) (code k) p.name (behind (range_words p.width ++ end ∷ []))
    ∙ ap (λ l. (codes "$var" ++ 32 ∷ (codes "wire" ++ 32 ∷ (decimal p.width ++ 32 ∷ (code k ++ 32 ∷ l)))) ++ 10 ∷ []) (sym (joined p.name (range_words p.width ++ end ∷ [])))

abbrev pub var_text_of : ℕ × Pin → List ℕ
var_text_of p = line_text (var_line p)

pub var_lines : (ps : List Pin) → flat_map var_text_of (enumerate_from 0 ps) ≡ lines_text (map var_line (enumerate_from 0 ps))
var_lines ps = sym (flat_map-map line_text var_line (enumerate_from 0 ps))

opening : (n : List ℕ) (r : List ℕ) → (codes "$timescale 1ns $end\n$scope module " ++ (n ++ (codes " $end\n" ++ []))) ++ r ≡ codes "$timescale 1ns $end\n" ++ (((codes "$scope module " ++ (n ++ codes " $end")) ++ 10 ∷ []) ++ r)
opening n r = simp append_assoc

-- all before the first time: what stands before the declarations, and behind them
abbrev pub opened : List ℕ → List ℕ
opened name = codes "$timescale 1ns $end\n$scope module " ++ (name ++ (codes " $end\n" ++ []))

abbrev pub closing : List ℕ
closing = codes "$upscope $end\n$enddefinitions $end\n"

pub head_is : (name : List ℕ) (ps : List Pin) → opened name ++ (lines_text (map var_line (enumerate_from 0 ps)) ++ closing) ≡ head_text name ps
head_is name ps =
    opening name (lines_text (map var_line (enumerate_from 0 ps)) ++ closing)
    ∙ ap (λ l. codes "$timescale 1ns $end\n" ++ (((codes "$scope module " ++ (name ++ codes " $end")) ++ 10 ∷ []) ++ l)) (sym (flat_map-append line_text (map var_line (enumerate_from 0 ps)) ((codes "$upscope" ∷ end ∷ []) ∷ (codes "$enddefinitions" ∷ end ∷ []) ∷ [])))

-- The values.

abbrev change_by : (b : Bool) (k value : ℕ) → List ℕ
change_by b k value = line_text (if b then ((48 + value) ∷ code k) ∷ [] else (codes "b" ++ binary value) ∷ code k ∷ [])

is_one : (width : ℕ) → width ≢ 1 → (width == 1) ≡ false
is_one width p = grind (arith, nat_tests)

pub bit_text : (k value : ℕ) → ((48 + value) ∷ []) ++ (code k ++ (codes "\n" ++ [])) ≡ line_text (change_line k 1 value)
bit_text k value = refl

bits_apart : (d c : List ℕ) → codes "b" ++ (d ++ (codes " " ++ (c ++ (codes "\n" ++ [])))) ≡ ((codes "b" ++ d) ++ 32 ∷ c) ++ 10 ∷ []
bits_apart d c = simp append_assoc

pub bits_text : (k width value : ℕ) → width ≢ 1 → codes "b" ++ (binary value ++ (codes " " ++ (code k ++ (codes "\n" ++ [])))) ≡ line_text (change_line k width value)
bits_text k width value p = bits_apart (binary value) (code k) ∙ ap (λ b. change_by b k value) (sym (is_one width p))

pub time_text : (at : ℕ) → codes "#" ++ (decimal (10 * at) ++ (codes "\n" ++ [])) ≡ line_text (time_line at)
time_text at = refl

-- a pin with its number and its value
abbrev pub value_text : ℕ × (Pin × ℕ) → List ℕ
value_text p = line_text (change_line p.0 p.1.0.width p.1.1)

pub values_from : (k : ℕ) (ps : List Pin) (xs : List ℕ) → flat_map value_text (enumerate_from k (zip ps xs)) ≡ lines_text (all_lines k ps xs)
values_from k [] xs = refl
values_from k (p ∷ ps) [] = refl
values_from k (p ∷ ps) (x ∷ xs) = ap (λ l. value_text (k, (p, x)) ++ l) (values_from (k + 1) ps xs)

-- a pin with its number, the value before and the value now
abbrev pub changed_text : ℕ × (Pin × (ℕ × ℕ)) → List ℕ
changed_text p = lines_text (if p.1.1.0 == p.1.1.1 then [] else change_line p.0 p.1.0.width p.1.1.1 ∷ [])

pub changed_from : (k : ℕ) (ps : List Pin) (xs ys : List ℕ) → flat_map changed_text (enumerate_from k (zip ps (zip xs ys))) ≡ lines_text (changed_lines k ps xs ys)
changed_from k [] xs ys = refl
changed_from k (p ∷ ps) [] ys = refl
changed_from k (p ∷ ps) (x ∷ xs) [] = refl
changed_from k (p ∷ ps) (x ∷ xs) (y ∷ ys) =
    ap (λ l. changed_text (k, (p, (x, y))) ++ l) (changed_from (k + 1) ps xs ys)
    ∙ sym (flat_map-append line_text (if x == y then [] else change_line k p.width y ∷ []) (changed_lines (k + 1) ps xs ys))

-- the first time
pub first_is : (ps : List Pin) (xs : List ℕ) → codes "$dumpvars\n" ++ (lines_text (all_lines 0 ps xs) ++ codes "$end\n") ≡ lines_text ((codes "$dumpvars" ∷ []) ∷ (all_lines 0 ps xs ++ (end ∷ []) ∷ []))
first_is ps xs = ap (λ l. codes "$dumpvars\n" ++ l) (sym (flat_map-append line_text (all_lines 0 ps xs) ((end ∷ []) ∷ [])))

-- what stands behind a time
abbrev pub values_text : List Pin → Option (List ℕ) → List ℕ → List ℕ
values_text ps None xs = lines_text ((codes "$dumpvars" ∷ []) ∷ (all_lines 0 ps xs ++ (end ∷ []) ∷ []))
values_text ps (Some before) xs = lines_text (changed_lines 0 ps before xs)

pub vector_is : (at : ℕ) (ps : List Pin) (before : Option (List ℕ)) (xs : List ℕ) → line_text (time_line at) ++ values_text ps before xs ≡ vector_text at ps before xs
vector_is at ps None xs = refl
vector_is at ps (Some before) xs = refl
