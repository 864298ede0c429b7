-- Trees as the derivations build them, at no address.
use Rattle.std.specs.Borrow.{Bor}
use Rattle.std.proofs.Common.{◌≡◌, ℕ, refl, sym, ap, ◌∙◌, List, [], ◌∷◌, map}
use Rattle.rb_base.specs.declared.place.Place.{Place}
use Rattle.rdl_tree.specs.declared.expr.Expr.{Expr}
use Rattle.rdl_tree.specs.declared.expr.Expr.TheVariants as expr
use Rattle.rdl_tree.specs.declared.expr.Op.{Op}
use Rattle.rdl_tree.specs.declared.expr.Name.{Name}
use Rattle.rdl_tree.specs.declared.expr.Path.{Path, Path', out-Path, roll-Path, roll-out-Path, Row_of-Step, end_of-Step, more_of-Step, end_of-Expr, more_of-Expr}
use Rattle.rdl_tree.specs.declared.expr.Step.{Step}
use Rattle.rdl_tree.specs.declared.item.Def.{Def, more_of-Item}
use Rattle.rdl_tree.specs.declared.item.Item.{Item, Def'}
use Rattle.rdl_tree.specs.declared.item.Item.TheVariants as items
use Rattle.rdl_verdict_laws.specs.Plain.{here, plain_rows, plain_name, plain_expr, plain_path, plain_step, plain_item, plain_def}

pub not_alike : (e f : Bor Expr) (p q : Place) → plain_expr e.now ≡ plain_expr f.now → p ≡ q → plain_expr (expr.Not e p) ≡ plain_expr (expr.Not f q)
not_alike e f p q h k = cc

pub binary_alike : (o u : Op) (a b c d : Bor Expr) (p q : Place) → o ≡ u → plain_expr a.now ≡ plain_expr c.now → plain_expr b.now ≡ plain_expr d.now → p ≡ q → plain_expr (expr.Binary o a b p) ≡ plain_expr (expr.Binary u c d q)
binary_alike o u a b c d p q h k l m = cc

pub pick_alike : (a b c d e f : Bor Expr) (p q : Place) → plain_expr a.now ≡ plain_expr d.now → plain_expr b.now ≡ plain_expr e.now → plain_expr c.now ≡ plain_expr f.now → p ≡ q → plain_expr (expr.Pick a b c p) ≡ plain_expr (expr.Pick d e f q)
pick_alike a b c d e f p q h k l m = cc

-- Paths.

abbrev path_from : ℕ × ℕ → List Step → Path
path_from q ss = roll-Path (record { steps = record { ref_ptr = q; now = ss } })

-- an index before those of the first step, and a step without indices before the others
abbrev cons_first : {m : _} → Expr → Row_of-Step m → Row_of-Step m
cons_first e end_of-Step = end_of-Step
cons_first e (more_of-Step n q inner rows rest) = more_of-Step n q (tt ∷ inner) (more_of-Expr e rows) rest

abbrev cons_index : Expr → Path → Path
cons_index e (Path' p shape rows) = Path' p shape (cons_first e rows)

abbrev cons_step : Name → ℕ × ℕ → Path → Path
cons_step n r (Path' p shape rows) = Path' p (tt ∷ shape) (more_of-Step n (record { ref_ptr = r; now = tt }) [] end_of-Expr rows)

abbrev step_from : Name → ℕ × ℕ → List Expr → Step
step_from n r es = record { name = n; index = record { ref_ptr = r; now = es } }

first-plain : {m : _} (e : Expr) (rows : Row_of-Step m) → plain_rows (cons_first e rows) ≡ cons_first (plain_expr e) (plain_rows rows)
first-plain e end_of-Step = refl
first-plain e (more_of-Step n q inner rows rest) = refl

index-plain : (e : Expr) (p : Path) → plain_path (cons_index e p) ≡ cons_index (plain_expr e) (plain_path p)
index-plain e (Path' p shape rows) = ap (Path' here shape) (first-plain e rows)

index-made : (q r : ℕ × ℕ) (n : Name) (e : Expr) (es : List Expr) (ss : List Step) → path_from q (step_from n r (e ∷ es) ∷ ss) ≡ cons_index e (path_from q (step_from n r es ∷ ss))
unfolding roll-Path denote.Hole.Carrier.roll denote.Hole.Carrier.hidden Rattle.rdl_tree.specs.declared.expr.Expr.TheBlock.hidden-the_row-Step-1 Rattle.rdl_tree.specs.declared.expr.Expr.TheBlock.hidden-the_row-Expr-0
index-made q r n e es ss = refl

step-made : (q r : ℕ × ℕ) (n : Name) (ss : List Step) → path_from q (step_from n r [] ∷ ss) ≡ cons_step n r (path_from q ss)
unfolding roll-Path denote.Hole.Carrier.roll denote.Hole.Carrier.hidden Rattle.rdl_tree.specs.declared.expr.Expr.TheBlock.hidden-the_row-Step-1 Rattle.rdl_tree.specs.declared.expr.Expr.TheBlock.hidden-the_row-Expr-0
step-made q r n ss = refl

step-plain : (n : Name) (r : ℕ × ℕ) (p : Path) → plain_path (cons_step n r p) ≡ cons_step (plain_name n) (0, 0) (plain_path p)
step-plain n r (Path' p shape rows) = refl

abbrev at_none : List Step → Path
at_none ss = path_from (0, 0) ss

more-plain : (q r : ℕ × ℕ) (n : Name) (es : List Expr) (ss : List Step) → plain_path (path_from q ss) ≡ at_none (map plain_step ss)
    → plain_path (path_from q (step_from n r es ∷ ss)) ≡ at_none (step_from (plain_name n) (0, 0) (map plain_expr es) ∷ map plain_step ss)
more-plain q r n [] ss h =
    ap plain_path (step-made q r n ss) ∙ step-plain n r (path_from q ss) ∙ ap (cons_step (plain_name n) (0, 0)) h ∙ sym (step-made (0, 0) (0, 0) (plain_name n) (map plain_step ss))
more-plain q r n (e ∷ es) ss h =
    ap plain_path (index-made q r n e es ss) ∙ index-plain e (path_from q (step_from n r es ∷ ss)) ∙ ap (cons_index (plain_expr e)) (more-plain q r n es ss h)
    ∙ sym (index-made (0, 0) (0, 0) (plain_name n) (plain_expr e) (map plain_expr es) (map plain_step ss))

steps-plain : (q : ℕ × ℕ) (ss : List Step) → plain_path (path_from q ss) ≡ at_none (map plain_step ss)
unfolding roll-Path denote.Hole.Carrier.roll denote.Hole.Carrier.hidden Rattle.rdl_tree.specs.declared.expr.Expr.TheBlock.hidden-the_row-Step-1
steps-plain q [] = refl
steps-plain q (s ∷ ss) = more-plain q s.index.ref_ptr s.name s.index.now ss (steps-plain q ss)

-- a path at no address is its steps at none
pub path-plain : (p : Path) → plain_path p ≡ at_none (map plain_step (out-Path p).steps.now)
path-plain p = ap plain_path (sym (roll-out-Path p)) ∙ steps-plain (out-Path p).steps.ref_ptr (out-Path p).steps.now

pub path_alike : (p q : Path) → map plain_step (out-Path p).steps.now ≡ map plain_step (out-Path q).steps.now → plain_path p ≡ plain_path q
path_alike p q h = path-plain p ∙ (ap at_none h ∙ sym (path-plain q))

-- Definitions.

abbrev with_items : Def → List Item → Def
with_items d xs = record d { items = record { ref_ptr = d.items.ref_ptr; now = xs } }

abbrev cons_item : Item → Item → Item
cons_item i (Def' k n ps p shape rows insts place) = Def' k n ps p (tt ∷ shape) (more_of-Item i rows) insts place
cons_item i j = j

item-plain : (i : Item) (j : Item) → plain_item (cons_item i j) ≡ cons_item (plain_item i) (plain_item j)
item-plain i (Def' k n ps p shape rows insts place) = refl
item-plain i _ = refl

item-made : (d : Def) (x : Item) (xs : List Item) → items.Def (with_items d (x ∷ xs)) ≡ cons_item x (items.Def (with_items d xs))
unfolding denote.Hole.Carrier.hidden Rattle.rdl_tree.specs.declared.item.Item.TheBlock.hidden-the_row-Item-0
item-made d x xs = refl

items-plain : (d : Def) (xs : List Item) → plain_item (items.Def (with_items d xs)) ≡ items.Def (plain_def (with_items d xs))
unfolding denote.Hole.Carrier.hidden Rattle.rdl_tree.specs.declared.item.Item.TheBlock.hidden-the_row-Item-0
items-plain d [] = refl
items-plain d (x ∷ xs) =
    ap plain_item (item-made d x xs) ∙ item-plain x (items.Def (with_items d xs)) ∙ ap (cons_item (plain_item x)) (items-plain d xs)
    ∙ sym (item-made (plain_def d) (plain_item x) (map plain_item xs))

-- a definition at no address is the item that it makes there
pub def-plain : (d : Def) → plain_item (items.Def d) ≡ items.Def (plain_def d)
def-plain d = items-plain d d.items.now
