-- A chain of operators determines its tree: the root is the last operator of the least level.
use Rattle.std.proofs.Common.{◌≡◌, ℕ, ◌+◌, ◌≤◌, refl, sym, ap, ◌∙◌, subst, List, [], ◌∷◌, ◌++◌, map, Some, arith}
use Rattle.std.proofs.lemmas.List.{map-append}
use Rattle.rb_base.specs.declared.place.Place.{Place}
use Rattle.rdl_tree.specs.declared.expr.Expr.{Expr}
use Rattle.rdl_tree.specs.declared.expr.Op.{Op}
use Rattle.rdl_tree.specs.declared.token.Mark.{Mark}
use Rattle.rdl_tree.specs.declared.token.Token.{Token}
use Rattle.rdl_tree.specs.Tree.{IsMark, operator_of, level, DerivesPrefix, DerivesBinary}
use Rattle.rdl_tree.specs.Tree as tree
use Rattle.rdl_verdict_laws.specs.Plain.{plain_expr}
use Rattle.rdl_verdict_laws.proofs.Built.{binary_alike}

-- an operator and its right operand
pub record Link : Type 0 where
  pub op : Op
  pub place : Place
  pub right : Expr

abbrev pub plain_link : Link → Link
plain_link l = record { op = l.op; place = l.place; right = plain_expr l.right }

-- the first operand of a chain, and what is joined to it
abbrev pub head_of : {k : ℕ} {ts us : List Token} {e : Expr} → DerivesBinary k ts us e → Expr
head_of (tree.operand {e = e} d) = e
head_of (tree.joined e l a i b) = head_of a

abbrev pub links_of : {k : ℕ} {ts us : List Token} {e : Expr} → DerivesBinary k ts us e → List Link
links_of (tree.operand d) = []
links_of (tree.joined {o = o} {t = t} e l a i b) = links_of a ++ (record { op = o; place = t.place; right = head_of b } ∷ links_of b)

-- prefixes with operators between them
pub data Chained : List Token → List Token → Expr → List Link → Type 0 where
  one : {ts us : List Token} {e : Expr} → DerivesPrefix ts us e → Chained ts us e []
  more : {m : Mark} {o : Op} {t : Token} {ts us vs ws : List Token} {e f : Expr} {ls : List Link} → DerivesPrefix ts us e → operator_of m ≡ Some o → IsMark m us t vs → Chained vs ws f ls
      → Chained ts ws e (record { op = o; place = t.place; right = f } ∷ ls)

and_then : {m : Mark} {o : Op} {t : Token} {ts us vs ws : List Token} {e f : Expr} {ks ls : List Link} → Chained ts us e ks → operator_of m ≡ Some o → IsMark m us t vs → Chained vs ws f ls
    → Chained ts ws e (ks ++ (record { op = o; place = t.place; right = f } ∷ ls))
and_then (one d) h i c = more d h i c
and_then (more d e j b) h i c = more d e j (and_then b h i c)

pub chained : {k : ℕ} {ts us : List Token} {e : Expr} (d : DerivesBinary k ts us e) → Chained ts us (head_of d) (links_of d)
chained (tree.operand d) = one d
chained (tree.joined h l a i b) = and_then (chained a) h i (chained b)

-- each operator binds at least so tightly
abbrev Least : ℕ → List Link → Type 0
Least k [] = Unit {0}
Least k (l ∷ ls) = (k ≤ level l.op) × Least k ls

looser : (j k : ℕ) (ls : List Link) → j ≤ k → Least k ls → Least j ls
looser j k [] h r = tt
looser j k (l ∷ ls) h r = let first : k ≤ level l.op = r.0 in (omega (arith, h, first), looser j k ls h r.1)

least-append : (k : ℕ) (ks ls : List Link) → Least k ks → Least k ls → Least k (ks ++ ls)
least-append k [] ls a b = b
least-append k (x ∷ ks) ls a b = (a.0, least-append k ks ls a.1 b)

least : {k : ℕ} {ts us : List Token} {e : Expr} (d : DerivesBinary k ts us e) → Least k (links_of d)
least (tree.operand d) = tt
least {k = k} (tree.joined {o = o} {t = t} h l a i b) =
    least-append k (links_of a) (record { op = o; place = t.place; right = head_of b } ∷ links_of b) (looser k (level o) (links_of a) l (least a)) (l, looser k (level o + 1) (links_of b) (omega (arith, l)) (least b))

least-plain : (k : ℕ) (ls : List Link) → Least k ls → Least k (map plain_link ls)
least-plain k [] r = tt
least-plain k (l ∷ ls) r = (r.0, least-plain k ls r.1)

among : (k : ℕ) (ks : List Link) (l : Link) (ls : List Link) → Least k (ks ++ (l ∷ ls)) → k ≤ level l.op
among k [] l ls r = r.0
among k (x ∷ ks) l ls r = among k ks l ls r.1

-- the last operator of the least level stands at one place
record Split (a b c d : List Link) (l m : Link) : Type 0 where
  left : a ≡ c
  root : l ≡ m
  right : b ≡ d

split_once : (a b c d : List Link) (l m : Link) → Least (level l.op) a → Least (level l.op + 1) b → Least (level m.op) c → Least (level m.op + 1) d → a ++ (l ∷ b) ≡ c ++ (m ∷ d) → Split a b c d l m
split_once [] b [] d l m la lb lc ld e = record { left = refl; root = cc; right = cc }
split_once [] b (y ∷ c) d l m la lb lc ld e =
    let h : l ≡ y = cc in
    let t : b ≡ c ++ (m ∷ d) = cc in
    let low : level m.op ≤ level y.op = lc.0 in
    let high : level l.op + 1 ≤ level m.op = among (level l.op + 1) c m d (subst (Least (level l.op + 1)) t lb) in
    let same : level l.op ≡ level y.op = ap (λ z. level z.op) h in
    absurd (omega (arith, low, high, same))
split_once (x ∷ a) b [] d l m la lb lc ld e =
    let h : x ≡ m = cc in
    let t : a ++ (l ∷ b) ≡ d = cc in
    let low : level l.op ≤ level x.op = la.0 in
    let high : level m.op + 1 ≤ level l.op = among (level m.op + 1) a l b (subst (Least (level m.op + 1)) (sym t) ld) in
    let same : level x.op ≡ level m.op = ap (λ z. level z.op) h in
    absurd (omega (arith, low, high, same))
split_once (x ∷ a) b (y ∷ c) d l m la lb lc ld e =
    let h : x ≡ y = cc in
    let t : a ++ (l ∷ b) ≡ c ++ (m ∷ d) = cc in
    let r = split_once a b c d l m la.1 lb lc.1 ld t in
    record { left = (λ i. h i ∷ r.left i); root = r.root; right = r.right }

nonempty : (ks : List Link) (l : Link) (ls : List Link) → [] ≡ map plain_link (ks ++ (l ∷ ls)) → ⊥
nonempty [] l ls e = cc
nonempty (x ∷ ks) l ls e = cc

-- chains that are one apart from addresses are the chains of one tree
pub chain_once : {j k : ℕ} {ts us ts' us' : List Token} {e f : Expr} (d : DerivesBinary j ts us e) (b : DerivesBinary k ts' us' f)
    → plain_expr (head_of d) ≡ plain_expr (head_of b) → map plain_link (links_of d) ≡ map plain_link (links_of b) → plain_expr e ≡ plain_expr f
chain_once (tree.operand d) (tree.operand b) h t = h
chain_once (tree.operand d) (tree.joined {o = o} {t = u} x l a i b) h t = absurd (nonempty (links_of a) (record { op = o; place = u.place; right = head_of b }) (links_of b) t)
chain_once (tree.joined {o = o} {t = u} x l a i b) (tree.operand d) h t = absurd (nonempty (links_of a) (record { op = o; place = u.place; right = head_of b }) (links_of b) (sym t))
chain_once (tree.joined {o = o} {t = v} {a = p} {b = q} x l a i b) (tree.joined {o = o'} {t = v'} {a = p'} {b = q'} x' l' a' i' b') h t =
    let m : Link = record { op = o; place = v.place; right = head_of b } in
    let n : Link = record { op = o'; place = v'.place; right = head_of b' } in
    let e : map plain_link (links_of a) ++ (plain_link m ∷ map plain_link (links_of b)) ≡ map plain_link (links_of a') ++ (plain_link n ∷ map plain_link (links_of b')) =
    sym (map-append plain_link (links_of a) (m ∷ links_of b)) ∙ t ∙ map-append plain_link (links_of a') (n ∷ links_of b') in
    let s = split_once (map plain_link (links_of a)) (map plain_link (links_of b)) (map plain_link (links_of a')) (map plain_link (links_of b')) (plain_link m) (plain_link n)
    (least-plain (level o) (links_of a) (least a)) (least-plain (level o + 1) (links_of b) (least b)) (least-plain (level o') (links_of a') (least a')) (least-plain (level o' + 1) (links_of b') (least b')) e in
    binary_alike o o' p q p' q' v.place v'.place (ap (λ z. z.op) s.root) (chain_once a a' h s.left) (chain_once b b' (ap (λ z. z.right) s.root) s.right) (ap (λ z. z.place) s.root)
