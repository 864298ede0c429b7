-- What has a section of the page: a word, or the words of all elements of an array of which the page says the same.
use Rattle.std.specs.Prelude.{cond, List, [], ◌∷◌, flat_map, map, Option, None, Some}
use Rattle.encodings.specs.Encodings.{Enumerations}
use Rattle.rb_model.specs.declared.block.Block.{Block}
use Rattle.word_groups.specs.declared.entries.Entry.{Entry}
use Rattle.word_groups.specs.Arrays.{array_of, groups_of}
use Rattle.word_groups.specs.Paths.{names_and_indices}
use Rattle.block_effects.specs.Notes.{AllSaid}
use Rattle.manual_sections.specs.Rows.{all_effects}
use Rattle.manual_sections.specs.declared.units.WordUnit.{WordUnit}
use Rattle.manual_units.specs.Likeness.{are_like}
use Rattle.manual_units.specs.Marks.{mark}
use Rattle.manual_units.specs.declared.lots.Lot.{Lot}

-- Words that stand together, and the array that they are, if its elements are like.

abbrev pub whole_of : Block → AllSaid → Enumerations → List Entry → Option Entry → Option Entry
whole_of b n es g None = None
whole_of b n es g (Some a) = cond (are_like b n es g) (Some a) None

abbrev pub whole : Block → AllSaid → Enumerations → List Entry → Option Entry
whole b n es g = whole_of b n es g (array_of g)

abbrev pub lot : Block → AllSaid → Enumerations → List Entry → Lot
lot b n es g = record { words = g; whole = whole b n es g }

abbrev pub lots : Block → AllSaid → Enumerations → List Lot
lots b n es = map (lot b n es) (groups_of b)

abbrev pub shown_entries : List Entry → Option Entry → List Entry
shown_entries g None = g
shown_entries g (Some a) = a ∷ []

abbrev pub lot_entries : Lot → List Entry
lot_entries l = shown_entries l.words l.whole

-- Units.

abbrev pub unit : Block → Entry → WordUnit
unit b e = record { entry = e; pieces = names_and_indices e.path; mark = mark e; effects = all_effects b e.parts }

abbrev pub lot_units : Block → Lot → List WordUnit
lot_units b l = map (unit b) (lot_entries l)

abbrev pub units : Block → List Lot → List WordUnit
units b ls = flat_map (lot_units b) ls
