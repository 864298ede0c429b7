-- What a header has a block of macros for: a word, or the like words of all elements of an array.
use Rattle.std.specs.Prelude.{ℕ, ◌/◌, ◌==◌, cond, Option, None, Some, List, [], ◌∷◌, flat_map, map, slice_get}
use Rattle.std.specs.List.{enumerate_from}
use Rattle.std.specs.Option.{option_map_or}
use Rattle.rb_model.specs.declared.block.Block.{Block}
use Rattle.rb_model.specs.declared.block.Word.{Word}
use Rattle.word_groups.specs.declared.entries.Entry.{Entry}
use Rattle.word_groups.specs.Parts.{parts}
use Rattle.word_groups.specs.Paths.{indices}

abbrev pub path_of : Block → Word → List ℕ
path_of b w = option_map_or (λ r. r.path) (slice_get b.regs w.reg) []

abbrev pub single : Block → Word → Entry
single b w = record {
  reg = w.reg;
  path = path_of b w;
  indices = indices (path_of b w);
  number = w.number;
  address = w.address;
  bytes = w.width / 8;
  parts = parts b w;
  lengths = [];
  strides = [];
}

-- the word that a write reaches, where it isn't that of the read at its address
abbrev pub other_word : Word → Option Word → List Word
other_word r None = []
other_word r (Some w) = cond (w.reg == r.reg) [] (w ∷ [])

abbrev pub words_at : Block → ℕ × Word → List Word
words_at b r = r.1 ∷ other_word r.1 (slice_get b.writes r.0)

-- the words that the address table lists, in its order
abbrev pub all_words : Block → List Word
all_words b = flat_map (words_at b) (enumerate_from 0 b.reads)

abbrev pub singles : Block → List Entry
singles b = map (single b) (all_words b)
