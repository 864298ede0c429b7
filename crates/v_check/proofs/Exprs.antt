-- Expressions of the program, part by part.
use Rattle.std.specs.Str.{bytes_eq}
use Rattle.std.proofs.Common.{◌≡◌, ℕ, zero, suc, ◌+◌, ◌<◌, ◌≤◌, true, List, [], ◌∷◌, ◌++◌, length, take, get_or, refl, ap, sym, ◌∙◌, append_assoc, arith, rules, Vec, Box, Global}
use Rattle.std.proofs.lemmas.List.{append-nil, take_more, take_all}
use Rattle.v_design.specs.declared.design.VExpr.{VExpr, Row_of-VExpr, end_of-VExpr, more_of-VExpr, items-the_row-VExpr}
use Rattle.v_design.specs.declared.design.VExpr.TheVariants as variant
use Rattle.v_design.specs.declared.design.VExpr.TheViews.{the_lemmas}
use Rattle.v_design.specs.declared.design.VOne.{VOne}
use Rattle.v_design.specs.declared.design.VTwo.{VTwo}
use Rattle.v_design.specs.Expr as expr
use Rattle.v_design.specs.Expr.{Expr, Exprs, none, more, nets_of, nets_of_each}
use Rattle.v_design.specs.Lexemes.{among}
use Rattle.v_design.proofs.Names.{or-left, or-right}
use Rattle.plain_lemmas.proofs.Lists.{list_any-append}
use Rattle.v_design.specs.Seen.{expr_seen, exprs_seen}

-- the expressions of a list
abbrev pub listed : List VExpr → Exprs
listed [] = none
listed (e ∷ es) = more (expr_seen e) (listed es)

row_listed : (n : _) (row : Row_of-VExpr n) → exprs_seen row ≡ listed (items-the_row-VExpr n row)
row_listed _ end_of-VExpr = refl
row_listed _ (more_of-VExpr e rest) = ap (λ z. more (expr_seen e) z) (row_listed _ rest)

-- a concatenation is seen as the list of its parts
pub cat_seen : (v : Vec VExpr Global) → expr_seen (variant.Cat v) ≡ expr.Cat (listed v.items)
cat_seen v = search (rules, the_lemmas, row_listed)

pub one_seen : (op : VOne) (a : Box VExpr Global) → expr_seen (variant.One op a) ≡ expr.One op (expr_seen a.value)
one_seen op a = search (rules, the_lemmas)

pub two_seen : (op : VTwo) (a b : Box VExpr Global) → expr_seen (variant.Two op a b) ≡ expr.Two op (expr_seen a.value) (expr_seen b.value)
two_seen op a b = search (rules, the_lemmas)

pub pick_seen : (a b c : Box VExpr Global) → expr_seen (variant.Pick a b c) ≡ expr.Pick (expr_seen a.value) (expr_seen b.value) (expr_seen c.value)
pick_seen a b c = search (rules, the_lemmas)

-- one expression more at the end
abbrev pub behind : Exprs → Expr → Exprs
behind none e = more e none
behind (more x xs) e = more x (behind xs e)

pub listed-push : (es : List VExpr) (e : VExpr) → listed (es ++ (e ∷ [])) ≡ behind (listed es) (expr_seen e)
listed-push [] e = refl
listed-push (x ∷ xs) e = ap (more (expr_seen x)) (listed-push xs e)

pub nets-behind : (es : Exprs) (e : Expr) → nets_of_each (behind es e) ≡ nets_of_each es ++ nets_of e
nets-behind none e = append-nil (nets_of e)
nets-behind (more x xs) e = ap (λ l. nets_of x ++ l) (nets-behind xs e) ∙ sym (append_assoc (nets_of x) (nets_of_each xs) (nets_of e))

-- one part more of a list
pub listed-more : (items : List VExpr) (i : ℕ) (d : VExpr) → i < length items → d ≡ get_or items i d → listed (take (i + 1) items) ≡ behind (listed (take i items)) (expr_seen d)
listed-more items i d l is = rw (take_more items i d l, listed-push (take i items) (get_or items i d), ← is) refl

-- all parts of a list
pub listed-all : (items parts : List VExpr) (i : ℕ) → length items ≤ i → items ≡ parts → listed (take i items) ≡ listed parts
listed-all items parts i l is = ap listed (take_all i items l ∙ is)

-- a name in a part is one in the whole
pub part-among : (items : List VExpr) (i : ℕ) (d : VExpr) (n : List ℕ) → i < length items → d ≡ get_or items i d → among (nets_of (expr_seen d)) n ≡ true → among (nets_of_each (listed items)) n ≡ true
part-among [] i d n l is h = absurd (omega (arith, l))
part-among (x ∷ xs) zero d n l is h =
    list_any-append (λ w. bytes_eq w n) (nets_of (expr_seen x)) (nets_of_each (listed xs))
    ∙ or-left (among (nets_of (expr_seen x)) n) (among (nets_of_each (listed xs)) n) (ap (λ y. among (nets_of (expr_seen y)) n) (sym is) ∙ h)
part-among (x ∷ xs) (suc i) d n l is h =
    list_any-append (λ w. bytes_eq w n) (nets_of (expr_seen x)) (nets_of_each (listed xs))
    ∙ or-right (among (nets_of (expr_seen x)) n) (among (nets_of_each (listed xs)) n) (part-among xs i d n (omega (arith, l)) is h)
