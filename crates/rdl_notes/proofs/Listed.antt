-- The enumerations of a definition are those of the items in its body.
use Rattle.std.proofs.Common.{zero, suc, ◌≡◌, ◌∙◌, ℕ, ◌+◌, ◌<◌, ◌≤◌, List, [], ◌∷◌, ◌++◌, add-one, append-nil, append_assoc, flat_map, length, take, get_or, None, Some, slice_get, refl, sym, ap, subst}
use Rattle.plain_lemmas.proofs.Lists.{get-at, take-all}
use Rattle.rdl_tree.specs.declared.item.Def.{Def, Row_of-Item, end_of-Item, more_of-Item}
use Rattle.rdl_tree.specs.declared.item.Entry.{Entry}
use Rattle.rdl_tree.specs.declared.item.Item.{Item, Def', EnumDef, Made, Default, Local, Dynamic}
use Rattle.rdl_tree.specs.declared.item.Item.TheVariants as items
use Rattle.rdl_notes.specs.Entries.{enums_in, enums_of}
use Rattle.rdl_notes.specs.Known.{AreKnown}
use Rattle.rdl_values.specs.Views as view
use Rattle.rdl_values.specs.Views.{ItemIs, item_is, item_is-Def, listed}
use Rattle.rdl_notes.specs.declared.entries.SourceEnums.{SourceEnums}

of_rows : {m : _} (rows : Row_of-Item m) → enums_in rows ≡ flat_map enums_of (listed rows)
of_rows end_of-Item = refl
of_rows (more_of-Item i rest) = ap (λ es. enums_of i ++ es) (of_rows rest)

abbrev of_view : ItemIs → List (ℕ × List Entry)
of_view (view.definition d) = flat_map enums_of d.items.now
of_view (view.enumeration n es) = (n.place.0, es) ∷ []
of_view _ = []

viewed : (i : Item) → enums_of i ≡ of_view (item_is i)
viewed (Def' k n ps p shape rows insts place) = of_rows rows
viewed (EnumDef n es) = refl
viewed (Made a n is) = refl
viewed (Default s) = refl
viewed (Local s) = refl
viewed (Dynamic p s) = refl

pub enums_of-Def : (d : Def) → enums_of (items.Def d) ≡ flat_map enums_of d.items.now
enums_of-Def d = viewed (items.Def d) ∙ ap of_view (item_is-Def d)

-- As a loop reads items.

one_more : (is : List Item) (k : ℕ) (x : Item) → slice_get is k ≡ Some x → flat_map enums_of (take (suc k) is) ≡ flat_map enums_of (take k is) ++ enums_of x
one_more [] k x h = absurd (let q : None ≡ Some x = h in cc)
one_more (y ∷ is) zero x h = let q : y ≡ x = cc in append-nil (enums_of y) ∙ ap enums_of q
one_more (y ∷ is) (suc k) x h = ap (λ l. enums_of y ++ l) (one_more is k x h) ∙ sym (append_assoc (enums_of y) (flat_map enums_of (take k is)) (enums_of x))

pub read_more : (is : List Item) (k : ℕ) (x : Item) → k < length is → x ≡ get_or is k x → (es : List (ℕ × List Entry)) (new : SourceEnums) → AreKnown ((es ++ flat_map enums_of (take k is)) ++ enums_of x) new → AreKnown (es ++ flat_map enums_of (take (k + 1) is)) new
read_more is k x low e es new known =
    subst (λ l. AreKnown l new)
    (append_assoc es (flat_map enums_of (take k is)) (enums_of x)
    ∙ ap (λ l. es ++ l) (sym (one_more is k x (get-at is k x low ∙ ap Some (sym e))) ∙ ap (λ n. flat_map enums_of (take n is)) (sym (add-one k)))) known

pub read_all : (is : List Item) (k : ℕ) → length is ≤ k → (es : List (ℕ × List Entry)) (new : SourceEnums) → AreKnown (es ++ flat_map enums_of (take k is)) new → AreKnown (es ++ flat_map enums_of is) new
read_all is k p es new known = subst (λ l. AreKnown (es ++ flat_map enums_of l) new) (take-all is k p) known

pub read_definition : (d : Def) (k : ℕ) → length d.items.now ≤ k → (es : List (ℕ × List Entry)) (new : SourceEnums) → AreKnown (es ++ flat_map enums_of (take k d.items.now)) new → AreKnown (es ++ enums_of (items.Def d)) new
read_definition d k p es new known = subst (λ l. AreKnown (es ++ l) new) (sym (enums_of-Def d)) (read_all d.items.now k p es new known)
