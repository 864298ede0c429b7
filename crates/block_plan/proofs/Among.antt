-- The items that fields, registers and outputs show are the block's.
use Rattle.std.proofs.Common.{◌≡◌, ℕ, Bool, true, false, not, ◌||◌, if◌then◌else◌, Some, List, [], ◌∷◌, ◌++◌, codes, slice_get, refl, arith}
use Rattle.std.specs.Prelude.{Contains, IsTrue, is_some}
use Rattle.std.specs.List.{enumerate_from, flat_map, list_any}
use Rattle.std.proofs.lemmas.List.Elements.{Contains-append_left, Contains-append_right}
use Rattle.rb_model.specs.declared.kinds.RefItem.{RefItem}
use Rattle.rb_model.specs.declared.kinds.RefItem.TheVariants as item
use Rattle.rb_model.specs.declared.kinds.Shown.{Shown}
use Rattle.rb_model.specs.declared.kinds.Shown.TheVariants as shown
use Rattle.rb_model.specs.declared.block.Block.{Block}
use Rattle.rb_model.specs.declared.block.Field.{Field}
use Rattle.rb_model.specs.declared.block.Reg.{Reg}
use Rattle.rb_model.specs.Kept.{when}
use Rattle.rb_model.specs.Ports.{outlet, outlets, field_outlets, reg_outlets, shown_item, shown_word}
use Rattle.rb_model.specs.Items.{items, field_items, reg_items}
use Rattle.rb_model.specs.References.{Each}
use Rattle.rb_model.specs.SoundField.{FieldIsSoundIn, FieldIsSound, is_of_counter}
use Rattle.rb_model.specs.Sound.{IsSound}
use Rattle.rb_model.proofs.Eachs.{Each-append, Each-weaker, Each-both, Each-always, Each-flat_map, Each-map, Each-parts, Each-none, Each-from_zero}

-- a field's items, and a register's, are the block's
pub field_among : (b : Block) → Each (λ e. (i : RefItem) → Contains (field_items e) i → Contains (items b) i) (enumerate_from 0 b.fields)
field_among b = Each-weaker (λ e. (i : RefItem) → Contains (field_items e) i → Contains (flat_map field_items (enumerate_from 0 b.fields)) i) _
    (λ e h i c. Contains-append_left _ (flat_map reg_items (enumerate_from 0 b.regs)) i (Contains-append_right (flat_map (λ s. item.Signal s.0 ∷ []) (enumerate_from 0 b.signals)) (flat_map field_items (enumerate_from 0 b.fields)) i (h i c)))
    (enumerate_from 0 b.fields) (Each-parts field_items (enumerate_from 0 b.fields))

pub reg_among : (b : Block) → Each (λ e. (i : RefItem) → Contains (reg_items e) i → Contains (items b) i) (enumerate_from 0 b.regs)
reg_among b = Each-weaker (λ e. (i : RefItem) → Contains (reg_items e) i → Contains (flat_map reg_items (enumerate_from 0 b.regs)) i) _
    (λ e h i c. Contains-append_right (flat_map (λ s. item.Signal s.0 ∷ []) (enumerate_from 0 b.signals) ++ flat_map field_items (enumerate_from 0 b.fields)) (flat_map reg_items (enumerate_from 0 b.regs)) i (h i c))
    (enumerate_from 0 b.regs) (Each-parts reg_items (enumerate_from 0 b.regs))

pub value_among : (b : Block) (k : ℕ) (f : Field) → slice_get b.fields k ≡ Some f → Contains (items b) (item.Field k)
value_among b k f e = Each-from_zero (λ e. (i : RefItem) → Contains (field_items e) i → Contains (items b) i) b.fields k f (field_among b) e (item.Field k) (0, omega arith, refl)

-- an output that a field shows is one of its items
shown_in : (k : ℕ) (counts : Bool) (s : Shown) → (IsTrue (is_of_counter s) → IsTrue counts)
    → Contains (item.Field k ∷ item.Anded k ∷ item.Ored k ∷ item.Xored k ∷ ((if counts then item.IncrThreshold k ∷ item.DecrThreshold k ∷ item.Overflow k ∷ item.Underflow k ∷ [] else []) ++ item.SwMod k ∷ item.SwAcc k ∷ [])) (shown_item k s)
shown_in k counts shown.Anded h = (1, omega arith, refl)
shown_in k counts shown.Ored h = (2, omega arith, refl)
shown_in k counts shown.Xored h = (3, omega arith, refl)
shown_in k true shown.IncrThreshold h = (4, omega arith, refl)
shown_in k true shown.DecrThreshold h = (5, omega arith, refl)
shown_in k true shown.Overflow h = (6, omega arith, refl)
shown_in k true shown.Underflow h = (7, omega arith, refl)
shown_in k true shown.SwMod h = (8, omega arith, refl)
shown_in k true shown.SwAcc h = (9, omega arith, refl)
shown_in k false shown.IncrThreshold h = let no : IsTrue false = h refl in cc
shown_in k false shown.DecrThreshold h = let no : IsTrue false = h refl in cc
shown_in k false shown.Overflow h = let no : IsTrue false = h refl in cc
shown_in k false shown.Underflow h = let no : IsTrue false = h refl in cc
shown_in k false shown.SwMod h = (4, omega arith, refl)
shown_in k false shown.SwAcc h = (5, omega arith, refl)

not-both : (p : Bool) → IsTrue (not p) → IsTrue p → IsTrue false
not-both true h g = h
not-both false h g = g

shown_where : (counts : Bool) (xs : List Shown) → IsTrue (counts || not (list_any is_of_counter xs)) → Each (λ s. IsTrue (is_of_counter s) → IsTrue counts) xs
shown_where true xs h = Each-always (λ s. IsTrue (is_of_counter s) → IsTrue true) (λ s t. refl) xs
shown_where false xs h = Each-weaker (λ s. IsTrue (not (is_of_counter s))) (λ s. IsTrue (is_of_counter s) → IsTrue false) (λ s n t. not-both (is_of_counter s) n t) xs (Each-none is_of_counter xs h)

when_each : {X : Type 0} (P : X → Type 0) (c : Bool) (x : X) → (IsTrue c → P x) → Each P (when c x)
when_each P true x h = (h refl, tt)
when_each P false x h = tt

when_has : {X : Type 0} (c : Bool) (x : X) → IsTrue c → Contains (when c x) x
when_has true x h = (0, omega arith, refl)
when_has false x h = cc

reg_shown : (e : ℕ × Reg) → Each (λ o. Contains (reg_items e) o.item) (reg_outlets e)
reg_shown e = Each-append (λ o. Contains (reg_items e) o.item) (when e.1.intr (outlet (codes "intr$" ++ e.1.path) 1 (item.Intr e.0))) (when e.1.halt (outlet (codes "halt$" ++ e.1.path) 1 (item.Halt e.0)))
    (when_each _ e.1.intr _ (λ t. Contains-append_left (when e.1.intr (item.Intr e.0)) (when e.1.halt (item.Halt e.0)) _ (when_has e.1.intr (item.Intr e.0) t)))
    (when_each _ e.1.halt _ (λ t. Contains-append_right (when e.1.intr (item.Intr e.0)) (when e.1.halt (item.Halt e.0)) _ (when_has e.1.halt (item.Halt e.0) t)))

field_shown : (e : ℕ × Field) → FieldIsSound e.1 → Each (λ o. Contains (field_items e) o.item) (field_outlets e)
field_shown e s = Each-append (λ o. Contains (field_items e) o.item) (when e.1.hw_reads (outlet (codes "out$" ++ e.1.path) e.1.width (item.Field e.0))) _
    (when_each _ e.1.hw_reads _ (λ t. (0, omega arith, refl)))
    (Each-map (λ o. Contains (field_items e) o.item) (λ s. outlet (shown_word s ++ e.1.path) 1 (shown_item e.0 s)) e.1.shown
    (Each-weaker (λ s. IsTrue (is_of_counter s) → IsTrue (is_some e.1.count)) (λ s. Contains (field_items e) (shown_item e.0 s)) (λ s h. shown_in e.0 (is_some e.1.count) s h) e.1.shown (shown_where (is_some e.1.count) e.1.shown s.shown_counts)))

-- each output shows an item of the block
pub outlets_among : (b : Block) → IsSound b → Each (λ o. Contains (items b) o.item) (outlets b)
outlets_among b s = Each-append (λ o. Contains (items b) o.item) (flat_map field_outlets (enumerate_from 0 b.fields)) (flat_map reg_outlets (enumerate_from 0 b.regs))
    (Each-flat_map (λ o. Contains (items b) o.item) field_outlets (enumerate_from 0 b.fields)
    (Each-both (FieldIsSoundIn b) (λ e. (i : RefItem) → Contains (field_items e) i → Contains (items b) i) (λ e. Each (λ o. Contains (items b) o.item) (field_outlets e))
    (λ e q h. Each-weaker (λ o. Contains (field_items e) o.item) (λ o. Contains (items b) o.item) (λ o c. h o.item c) (field_outlets e) (field_shown e q.alone)) (enumerate_from 0 b.fields) s.fields (field_among b)))
    (Each-flat_map (λ o. Contains (items b) o.item) reg_outlets (enumerate_from 0 b.regs)
    (Each-weaker (λ e. (i : RefItem) → Contains (reg_items e) i → Contains (items b) i) (λ e. Each (λ o. Contains (items b) o.item) (reg_outlets e))
    (λ e h. Each-weaker (λ o. Contains (reg_items e) o.item) (λ o. Contains (items b) o.item) (λ o c. h o.item c) (reg_outlets e) (reg_shown e)) (enumerate_from 0 b.regs) (reg_among b)))
