-- Items of a block.
use Rattle.std.proofs.Common.{◌≡◌, ◌∙◌, inl, inr, ℕ, zero, suc, ◌+◌, Bool, true, false, if◌then◌else◌, List, [], ◌∷◌, ◌++◌, flat_map, Option, Some, is_some, slice_get, Contains, refl, sym, ap, subst, arith}
use Rattle.std.specs.List.{enumerate_from}
use Rattle.std.specs.Option.{option_map_or}
use Rattle.rdl_tree.specs.declared.item.Kind.{Kind}
use Rattle.rdl_tree.specs.declared.item.Kind.TheVariants as kind
use Rattle.rdl_tree.specs.declared.item.Source.{Source}
use Rattle.rdl_values.specs.Faults.{when}
use Rattle.rdl_values.specs.Instances.{Instance, kind_of, nodes}
use Rattle.rdl_values.specs.Lineages.{Lineage, lineages, nodes_in}
use Rattle.rdl_nodes.proofs.Lineages.{all_nodes}
use Rattle.rdl_nodes.proofs.Members.{In, in-flat, in-left, in-right, in-to}
use Rattle.rdl_layers.specs.Fields.{is_counter}
use Rattle.rdl_layers.specs.Phase4.{width_of}
use Rattle.rdl_refs.specs.Items.{Item}
use Rattle.rdl_refs.specs.declared.item.What.{What}
use Rattle.rdl_refs.specs.declared.item.What.TheVariants as what
use Rattle.rb_model.specs.declared.block.Block.{Block}
use Rattle.rb_model.specs.declared.block.Field.{Field}
use Rattle.rb_model.specs.declared.block.Reg.{Reg}
use Rattle.rb_model.specs.declared.block.Signal.{Signal}
use Rattle.rb_model.specs.declared.kinds.RefItem.{RefItem}
use Rattle.rb_model.specs.declared.kinds.RefItem.TheVariants as item
use Rattle.rb_model.specs.Items.{field_items, items, reg_items}
use Rattle.rb_model.specs.References.{item_width}
use Rattle.rdl_rules.specs.Block.{IsBlockOf, reg_of, signal_of}
use Rattle.rdl_rules.specs.Feeds.{count_of, ref_of, ref_to, when_some}
use Rattle.rdl_rules.specs.Fields.{field_of}
use Rattle.rdl_rules.specs.Numbers.{Numbered, all_fields, all_signals, number_of, registers}
use Rattle.rdl_rules.specs.ReferenceRules as rules
use Rattle.rdl_sound_laws.specs.Lists.{HasLists}
use Rattle.rdl_sound_laws.specs.Standing.{FieldHas, HasItem, NodeHas}
use Rattle.rdl_sound_laws.proofs.Found.{field-at, register-at, signal-at}

-- An element with its place.
pub numbered : {X : Type 0} (n : ℕ) (xs : List X) (k : ℕ) (x : X) → slice_get xs k ≡ Some x → In (enumerate_from n xs) (n + k, x)
numbered n [] k x e = cc e
numbered n (y ∷ ys) zero x e = let same : y ≡ x = cc e in inl (λ i. (at i, same i))
  where
    at : n ≡ n + 0
    at = omega arith
numbered n (y ∷ ys) (suc k) x e = inr (subst (λ m. In (enumerate_from (n + 1) ys) (m, x)) (omega arith) (numbered (n + 1) ys k x e))

pub from-start : {X : Type 0} (xs : List X) (k : ℕ) (x : X) → slice_get xs k ≡ Some x → In (enumerate_from 0 xs) (k, x)
from-start xs k x e = subst (λ m. In (enumerate_from 0 xs) (m, x)) (omega arith) (numbered 0 xs k x e)

module _ (b : Block) where
  signals-in : (k : ℕ) (g : Signal) → slice_get b.signals k ≡ Some g → In (items b) (item.Signal k)
  signals-in k g e = in-left _ (flat_map reg_items (enumerate_from 0 b.regs)) (item.Signal k) (in-left _ (flat_map field_items (enumerate_from 0 b.fields)) (item.Signal k) (in-flat (λ s. item.Signal s.0 ∷ []) (enumerate_from 0 b.signals) (k, g) (item.Signal k) (from-start b.signals k g e) (inl refl)))

  fields-in : (k : ℕ) (f : Field) (i : RefItem) → slice_get b.fields k ≡ Some f → In (field_items (k, f)) i → In (items b) i
  fields-in k f i e h = in-left _ (flat_map reg_items (enumerate_from 0 b.regs)) i (in-right (flat_map (λ s. item.Signal s.0 ∷ []) (enumerate_from 0 b.signals)) (flat_map field_items (enumerate_from 0 b.fields)) i (in-flat field_items (enumerate_from 0 b.fields) (k, f) i (from-start b.fields k f e) h))

  regs-in : (k : ℕ) (r : Reg) (i : RefItem) → slice_get b.regs k ≡ Some r → In (reg_items (k, r)) i → In (items b) i
  regs-in k r i e h = in-right (flat_map (λ s. item.Signal s.0 ∷ []) (enumerate_from 0 b.signals) ++ flat_map field_items (enumerate_from 0 b.fields)) (flat_map reg_items (enumerate_from 0 b.regs)) i (in-flat reg_items (enumerate_from 0 b.regs) (k, r) i (from-start b.regs k r e) h)

-- The items of a field.

counted : (k : ℕ) (f : Field) (i : RefItem) → is_some f.count ≡ true → In (item.IncrThreshold k ∷ item.DecrThreshold k ∷ item.Overflow k ∷ item.Underflow k ∷ []) i → In (field_items (k, f)) i
counted k f i e h = inr (inr (inr (inr (in-left _ (item.SwMod k ∷ item.SwAcc k ∷ []) i (subst (λ c. In (if c then item.IncrThreshold k ∷ item.DecrThreshold k ∷ item.Overflow k ∷ item.Underflow k ∷ [] else []) i) (sym e) h)))))

last : (k : ℕ) (f : Field) (i : RefItem) → In (item.SwMod k ∷ item.SwAcc k ∷ []) i → In (field_items (k, f)) i
last k f i h = inr (inr (inr (inr (in-right (if is_some f.count then item.IncrThreshold k ∷ item.DecrThreshold k ∷ item.Overflow k ∷ item.Underflow k ∷ [] else []) (item.SwMod k ∷ item.SwAcc k ∷ []) i h))))

field-item : (k : ℕ) (f : Field) (n : Instance) (w : What) → is_some f.count ≡ is_counter n → FieldHas n w → In (field_items (k, f)) (ref_of w k)
field-item k f n what.Value e h = inl refl
field-item k f n what.Anded e h = inr (inl refl)
field-item k f n what.Ored e h = inr (inr (inl refl))
field-item k f n what.Xored e h = inr (inr (inr (inl refl)))
field-item k f n what.IncrThreshold e h = counted k f _ (e ∙ h) (inl refl)
field-item k f n what.DecrThreshold e h = counted k f _ (e ∙ h) (inr (inl refl))
field-item k f n what.Overflow e h = counted k f _ (e ∙ h) (inr (inr (inl refl)))
field-item k f n what.Underflow e h = counted k f _ (e ∙ h) (inr (inr (inr (inl refl))))
field-item k f n what.SwMod e h = last k f _ (inl refl)
field-item k f n what.SwAcc e h = last k f _ (inr (inl refl))
field-item k f n what.Intr e h = absurd h
field-item k f n what.Halt e h = absurd h

-- the width of an item, by what it is
abbrev width-of : Instance → What → ℕ
width-of n what.Value = width_of n
width-of n _ = 1

field-wide : (b : Block) (k : ℕ) (n : Instance) (w : What) → option_map_or (λ f. f.width) (slice_get b.fields k) 0 ≡ width_of n → FieldHas n w → item_width b (ref_of w k) ≡ width-of n w
field-wide b k n what.Value e h = e
field-wide b k n what.Anded e h = refl
field-wide b k n what.Ored e h = refl
field-wide b k n what.Xored e h = refl
field-wide b k n what.IncrThreshold e h = refl
field-wide b k n what.DecrThreshold e h = refl
field-wide b k n what.Overflow e h = refl
field-wide b k n what.Underflow e h = refl
field-wide b k n what.SwMod e h = refl
field-wide b k n what.SwAcc e h = refl
field-wide b k n what.Intr e h = absurd h
field-wide b k n what.Halt e h = absurd h

-- The item of the block, by the kind of the node.
abbrev pub ref-by : List Instance → Instance → Kind → What → RefItem
ref-by ns n kind.Signal w = item.Signal (number_of n (all_signals ns))
ref-by ns n kind.Field w = ref_of w (number_of n (all_fields ns))
ref-by ns n _ w = ref_of w (number_of n (registers ns))

as-ref : (all : List Lineage) (i : Item) (k : Kind) → kind_of i.node ≡ k → ref_to all i ≡ ref-by (nodes_in all) i.node k i.what
as-ref all i kind.Signal e = rw e refl
as-ref all i kind.Field e = rw e refl
as-ref all i kind.Reg e = rw e refl
as-ref all i kind.Addrmap e = rw e refl
as-ref all i kind.Regfile e = rw e refl

pub some-when : {A : Type 0} (c : Bool) (x : A) → is_some (when_some c x) ≡ c
some-when true x = refl
some-when false x = refl

pub lists-of : (wanted : Option (List ℕ)) (s : Source) (waits : ℕ) (b : Block) → IsBlockOf wanted s waits b → HasLists wanted s b
lists-of wanted s waits b is = record { signals_ = is.signals; fields_ = is.fields_; regs_ = is.regs }

module _ (wanted : Option (List ℕ)) (s : Source) (b : Block) (is : HasLists wanted s b) where
  ns : List Instance
  ns = nodes wanted s

  in-lines : (k : ℕ) (r : Reg) → r.intr ≡ true → In (reg_items (k, r)) (item.Intr k)
  in-lines k r e = in-left (when r.intr (item.Intr k)) (when r.halt (item.Halt k)) (item.Intr k) (subst (λ c. In (when c (item.Intr k)) (item.Intr k)) (sym e) (inl refl))

  in-halts : (k : ℕ) (r : Reg) → r.halt ≡ true → In (reg_items (k, r)) (item.Halt k)
  in-halts k r e = in-right (when r.intr (item.Intr k)) (when r.halt (item.Halt k)) (item.Halt k) (subst (λ c. In (when c (item.Halt k)) (item.Halt k)) (sym e) (inl refl))

  signal-here : (n : Instance) → Contains (all_signals (nodes wanted s)) n → slice_get b.signals (number_of n (all_signals (nodes wanted s))) ≡ Some (signal_of n)
  signal-here n c = ap (λ xs. slice_get xs (number_of n (all_signals (nodes wanted s)))) is.signals_ ∙ signal-at wanted s n c

  register-here : (n : Instance) → Contains (registers (nodes wanted s)) n → slice_get b.regs (number_of n (registers (nodes wanted s))) ≡ Some (reg_of n)
  register-here n c = ap (λ xs. slice_get xs (number_of n (registers (nodes wanted s)))) is.regs_ ∙ register-at wanted s n c

  pub field-here : (n : Instance) → Contains (all_fields (nodes wanted s)) n → (r : Numbered Lineage) × (slice_get b.fields (number_of n (all_fields (nodes wanted s))) ≡ Some (field_of s (lineages wanted s) r n))
  field-here n c = let h = field-at wanted s n c in (h.0, ap (λ xs. slice_get xs (number_of n (all_fields (nodes wanted s)))) is.fields_ ∙ h.1)

  listed-by : (n : Instance) (k : Kind) (w : What) → NodeHas (nodes wanted s) n k w → In (items b) (ref-by (nodes wanted s) n k w)
  listed-by n kind.Signal what.Value h = signals-in b (number_of n (all_signals (nodes wanted s))) (signal_of n) (signal-here n h)
  listed-by n kind.Field w h = let f = field-here n h.0 in fields-in b (number_of n (all_fields (nodes wanted s))) (field_of s (lineages wanted s) f.0 n) (ref_of w (number_of n (all_fields (nodes wanted s)))) f.1 (field-item (number_of n (all_fields (nodes wanted s))) (field_of s (lineages wanted s) f.0 n) n w (some-when (is_counter n) (count_of (lineages wanted s) n)) h.1)
  listed-by n kind.Reg what.Intr h = regs-in b (number_of n (registers (nodes wanted s))) (reg_of n) (item.Intr (number_of n (registers (nodes wanted s)))) (register-here n h.0) (in-lines (number_of n (registers (nodes wanted s))) (reg_of n) h.1)
  listed-by n kind.Reg what.Halt h = regs-in b (number_of n (registers (nodes wanted s))) (reg_of n) (item.Halt (number_of n (registers (nodes wanted s)))) (register-here n h.0) (in-halts (number_of n (registers (nodes wanted s))) (reg_of n) h.1)
  listed-by n k w h = absurd h

  wide-by : (n : Instance) (k : Kind) (w : What) → NodeHas (nodes wanted s) n k w → item_width b (ref-by (nodes wanted s) n k w) ≡ width-of n w
  wide-by n kind.Signal what.Value h = ap (λ o. option_map_or (λ g. g.width) o 0) (signal-here n h)
  wide-by n kind.Field w h = let f = field-here n h.0 in field-wide b (number_of n (all_fields (nodes wanted s))) n w (ap (λ o. option_map_or (λ x. x.width) o 0) f.1) h.1
  wide-by n kind.Reg what.Intr h = refl
  wide-by n kind.Reg what.Halt h = refl
  wide-by n k w h = absurd h

  pub same-ref : (i : Item) → ref_to (lineages wanted s) i ≡ ref-by (nodes wanted s) i.node (kind_of i.node) i.what
  same-ref i = as-ref (lineages wanted s) i (kind_of i.node) refl ∙ ap (λ xs. ref-by xs i.node (kind_of i.node) i.what) (all_nodes wanted s)

  pub item-in : (i : Item) → HasItem (nodes wanted s) i → Contains (items b) (ref_to (lineages wanted s) i)
  item-in i h = subst (Contains (items b)) (sym (same-ref i)) (in-to (items b) _ (listed-by i.node (kind_of i.node) i.what h))

  item-wide : (i : Item) → HasItem (nodes wanted s) i → item_width b (ref_to (lineages wanted s) i) ≡ rules.item_width i
  item-wide i h = ap (item_width b) (same-ref i) ∙ wide-by i.node (kind_of i.node) i.what h

pub all-listed : (wanted : Option (List ℕ)) (s : Source) (waits : ℕ) (b : Block) (i : Item) → IsBlockOf wanted s waits b → HasItem (nodes wanted s) i → Contains (items b) (ref_to (lineages wanted s) i)
all-listed wanted s waits b i is h = item-in wanted s b (lists-of wanted s waits b is) i h

pub all-wide : (wanted : Option (List ℕ)) (s : Source) (waits : ℕ) (b : Block) (i : Item) → IsBlockOf wanted s waits b → HasItem (nodes wanted s) i → item_width b (ref_to (lineages wanted s) i) ≡ rules.item_width i
all-wide wanted s waits b i is h = item-wide wanted s b (lists-of wanted s waits b is) i h
