-- How items and pins are written, seen from a word: an index that is the word's own is written by its name, `i0`, `i1` and so on.
use Rattle.std.specs.Prelude.{ℕ, ◌+◌, Bool, true, false, ◌&&◌, cond, min, List, [], ◌∷◌, ◌++◌, bytes_eq, codes, decimal, drop, get_or, Option, None, Some, slice_get}
use Rattle.std.specs.Option.{option_map_or}
use Rattle.encodings.specs.Encodings.{Enumerations}
use Rattle.rb_model.specs.declared.kinds.Feed.{Feed}
use Rattle.rb_model.specs.declared.kinds.Feed.TheVariants as feed
use Rattle.rb_model.specs.declared.kinds.RefItem.{RefItem}
use Rattle.rb_model.specs.declared.kinds.RefItem.TheVariants as item
use Rattle.rb_model.specs.declared.block.Block.{Block}
use Rattle.rb_model.specs.Kept.{of_field}
use Rattle.word_groups.specs.Paths.{is_index, names_and_indices}
use Rattle.html_text.specs.Tags.{link_begin, link_end}

-- Paths.

abbrev pub begins : List (List ℕ) → List ℕ → Bool
begins [] p = false
begins (o ∷ os) p = bytes_eq o p

-- the piece is the word's own, behind pieces that are
abbrev pub is_own : (same : Bool) → List (List ℕ) → List ℕ → Bool
is_own same own p = same && begins own p

abbrev pub index_name : ℕ → List ℕ
index_name k = codes "i" ++ decimal k

abbrev pub piece_name : (own : Bool) → ℕ → List ℕ → List ℕ
piece_name own k p = cond (is_index p && own) (index_name k) p

-- the number of the next index; no path has four milliards
abbrev pub next_index : ℕ → List ℕ → ℕ
next_index k p = cond (is_index p) (min 4294967295 (k + 1)) k

-- what stands before a name: a reader's dot or a pin's dollar, but nothing before the first
abbrev pub lead : (dotted first : Bool) → List ℕ
lead dotted first = cond first [] (cond dotted (codes ".") (codes "$"))

abbrev pub bracketed : List ℕ → List ℕ
bracketed name = codes "[" ++ name ++ codes "]"

abbrev pub place_text : (dotted first own : Bool) → ℕ → List ℕ → List ℕ
place_text dotted first own k p = cond (dotted && is_index p) (bracketed (piece_name own k p)) (lead dotted first ++ piece_name own k p)

-- the pieces, seen from an own path, whose pieces before are the same or not; their first index has the number k
abbrev pub seen_from : (dotted same first : Bool) (k : ℕ) (own pieces : List (List ℕ)) → List ℕ
seen_from dotted same first k own [] = []
seen_from dotted same first k own (p ∷ ps) = place_text dotted first (is_own same own p) k p ++ seen_from dotted (is_own same own p) false (next_index k p) (drop 1 own) ps

-- `uart[i0].ctrl` or `uart$i0$ctrl` for `uart$2$ctrl`, seen from `uart$2$status`; where own indices aren't named, `uart[2].ctrl`
abbrev pub relative : (dotted named : Bool) (own : List (List ℕ)) (path : List ℕ) → List ℕ
relative dotted named own path = seen_from dotted named true 0 own (names_and_indices path)

-- the pieces of what is left of a path
abbrev pub pieces_of : Option (List ℕ) → List (List ℕ)
pieces_of None = []
pieces_of (Some path) = names_and_indices path

-- Items.

-- From where: the pieces of the word's path, whether its own indices are written by their names, the marks of the fields' and
-- registers' places in the page, by their numbers, and the enumerations. A mark may be missing.
pub record Sight : Type 0 where
  pub block : Block
  pub own : List (List ℕ)
  pub named : Bool
  pub fields : List (List ℕ)
  pub regs : List (List ℕ)
  pub encodings : Enumerations

abbrev pub field_path : Block → ℕ → List ℕ
field_path b k = of_field b k [] (λ f. f.path)

abbrev pub reg_path : Block → ℕ → List ℕ
reg_path b k = option_map_or (λ r. r.path) (slice_get b.regs k) []

abbrev pub signal_path : Block → ℕ → List ℕ
signal_path b k = option_map_or (λ g. g.path) (slice_get b.signals k) []

-- a path as a reader writes it and what stands behind it, with a reference to the mark
abbrev pub linked : Sight → (mark path property : List ℕ) → List ℕ
linked s mark path property = link_begin mark ++ codes "<code>" ++ relative true s.named s.own path ++ property ++ codes "</code>" ++ link_end mark

abbrev pub field_item : Sight → ℕ → List ℕ → List ℕ
field_item s k property = linked s (get_or s.fields k []) (field_path s.block k) property

abbrev pub reg_item : Sight → ℕ → List ℕ → List ℕ
reg_item s k property = linked s (get_or s.regs k []) (reg_path s.block k) property

-- its mark has two colons, as that of no word has
abbrev pub signal_item : Sight → ℕ → List ℕ
signal_item s k = codes "<a href=\"#signal::" ++ decimal k ++ codes "\"><code>" ++ relative true s.named s.own (signal_path s.block k) ++ codes "</code></a>"

-- the number of the enumeration by which the field of a number is encoded
abbrev pub encoded_by : Sight → ℕ → Option ℕ
encoded_by s k = get_or s.encodings.fields k None

abbrev pub enumeration_name : Sight → ℕ → List ℕ
enumeration_name s k = option_map_or (λ e. e.name) (slice_get s.encodings.list k) []

-- its mark has two colons as well
abbrev pub enumeration_item : Sight → ℕ → List ℕ
enumeration_item s k = codes "<a href=\"#enum::" ++ decimal k ++ codes "\"><code>" ++ enumeration_name s k ++ codes "</code></a>"

abbrev pub item_text : Sight → RefItem → List ℕ
item_text s (item.Field k) = field_item s k []
item_text s (item.Signal k) = signal_item s k
item_text s (item.Anded k) = field_item s k (codes "-&gt;anded")
item_text s (item.Ored k) = field_item s k (codes "-&gt;ored")
item_text s (item.Xored k) = field_item s k (codes "-&gt;xored")
item_text s (item.IncrThreshold k) = field_item s k (codes "-&gt;incrthreshold")
item_text s (item.DecrThreshold k) = field_item s k (codes "-&gt;decrthreshold")
item_text s (item.Overflow k) = field_item s k (codes "-&gt;overflow")
item_text s (item.Underflow k) = field_item s k (codes "-&gt;underflow")
item_text s (item.SwMod k) = field_item s k (codes "-&gt;swmod")
item_text s (item.SwAcc k) = field_item s k (codes "-&gt;swacc")
item_text s (item.Intr k) = reg_item s k (codes "-&gt;intr")
item_text s (item.Halt k) = reg_item s k (codes "-&gt;halt")

-- a pin of this role and path
abbrev pub pin_name : Sight → (role path : List ℕ) → List ℕ
pin_name s role path = codes "<code>" ++ role ++ relative false s.named s.own path ++ codes "</code>"

abbrev pub pin_text : Sight → (role path : List ℕ) → List ℕ
pin_text s role path = codes "pin " ++ pin_name s role path

abbrev pub feed_text : Sight → Feed → (role path : List ℕ) → List ℕ
feed_text s feed.Off role path = []
feed_text s feed.Pin role path = pin_text s role path
feed_text s (feed.Item i) role path = item_text s i
