-- The tenants of a position, as one, bar another where one of them does; and where none does at any position, no extent clashes.
use Rattle.std.proofs.Common.{◌≡◌, ◌∙◌, ℕ, ◌<◌, ◌⊎◌, inl, inr, Bool, true, false, not, ◌&&◌, ◌||◌, cond, max, Option, None, Some, List, [], ◌∷◌, refl, sym, ap, arith}
use Rattle.std.specs.List.{list_any}
use Rattle.std.proofs.lemmas.Bool.Decides.{nat_tests}
use Rattle.plain_lemmas.proofs.Bools.{and-both as and-parts, or-assoc}
use Rattle.rdl_layout.specs.declared.extent.Side.{Side}
use Rattle.rdl_layout.specs.declared.extent.Side.TheVariants.{Reads, Writes, Other}
use Rattle.rdl_layout.specs.declared.extent.Form.{Form}
use Rattle.rdl_layout.specs.declared.extent.Tenant.{Tenant}
use Rattle.rdl_layout.specs.declared.extent.Extent.{Extent}
use Rattle.rdl_layout.specs.Extents.{is_opposite, is_same_side, has_form, may_share, is_alike, touch, clash, clashes_with_any, covers, joined, stepped, tenancy_from, tenancy, bars}

-- One more tenant.

opposite-alike : (a b c : Side) → is_same_side b c ≡ true → is_opposite a b ≡ is_opposite a c
opposite-alike a Reads Reads e = refl
opposite-alike a Writes Writes e = refl
opposite-alike a Other Other e = refl
opposite-alike a Reads Writes e = cc e
opposite-alike a Reads Other e = cc e
opposite-alike a Writes Reads e = cc e
opposite-alike a Writes Other e = cc e
opposite-alike a Other Reads e = cc e
opposite-alike a Other Writes e = cc e

both-opposite : (a b c : Side) → is_opposite a b ≡ true → is_opposite a c ≡ true → is_same_side b c ≡ true
both-opposite Reads Writes Writes e f = refl
both-opposite Writes Reads Reads e f = refl
both-opposite Reads Reads c e f = cc e
both-opposite Reads Other c e f = cc e
both-opposite Reads Writes Reads e f = cc f
both-opposite Reads Writes Other e f = cc f
both-opposite Writes Writes c e f = cc e
both-opposite Writes Other c e f = cc e
both-opposite Writes Reads Writes e f = cc f
both-opposite Writes Reads Other e f = cc f
both-opposite Other Reads c e f = cc e
both-opposite Other Writes c e f = cc e
both-opposite Other Other c e f = cc e

other-none : (a : Side) → is_opposite a Other ≡ false
other-none Reads = refl
other-none Writes = refl
other-none Other = refl

form-alike : (f g h : Form) → has_form g h ≡ true → has_form f g ≡ has_form f h
form-alike f g h e = grind (arith, nat_tests)

both-form : (f g h : Form) → has_form f g ≡ true → has_form f h ≡ true → has_form g h ≡ true
both-form f g h e e' = grind (arith, nat_tests)

not-both : (a b : Bool) → (a ≡ true → b ≡ true → ⊥) → true ≡ not a || not b
not-both true true h = absurd (h refl refl)
not-both true false h = refl
not-both false b h = refl

same-twice : (a b : Bool) → a ≡ b → not a ≡ not a || not b
same-twice true true e = refl
same-twice false false e = refl
same-twice true false e = cc e
same-twice false true e = cc e

and-both : (a b : Bool) → a ≡ true → b ≡ true → a && b ≡ true
and-both true true e f = refl
and-both true false e f = cc f
and-both false b e f = cc e

or-cases : (a b : Bool) → a || b ≡ true → (a ≡ true) ⊎ (b ≡ true)
or-cases true b e = inl refl
or-cases false b e = inr e

or-right : (a b : Bool) → b ≡ true → a || b ≡ true
or-right true b e = refl
or-right false b e = e

or-none : (a : Bool) → a ≡ a || false
or-none true = refl
or-none false = refl

alike-share : (t w u : Tenant) → is_alike w u ≡ true → may_share t w ≡ may_share t u
alike-share t w u e =
    let p = and-parts (has_form w.form u.form) (is_same_side w.side u.side) e in
    let f = form-alike t.form w.form u.form p.0 in
    let s = opposite-alike t.side w.side u.side p.1 in
    λ i. f i && s i

both-share : (t w u : Tenant) → may_share t w ≡ true → may_share t u ≡ true → is_alike w u ≡ true
both-share t w u e f =
    let p = and-parts (has_form t.form w.form) (is_opposite t.side w.side) e in
    let q = and-parts (has_form t.form u.form) (is_opposite t.side u.side) f in
    and-both (has_form w.form u.form) (is_same_side w.side u.side) (both-form t.form w.form u.form p.0 q.0) (both-opposite t.side w.side u.side p.1 q.1)

mixed-bars : (b : Bool) (a : Side) → not (b && is_opposite a Other) ≡ true
mixed-bars true Reads = refl
mixed-bars true Writes = refl
mixed-bars true Other = refl
mixed-bars false a = refl

joined-bars : (t : Tenant) (o : Option Tenant) (u : Tenant) → bars t (Some (joined o u)) ≡ bars t o || not (may_share t u)
joined-bars t None u = refl
joined-bars t (Some w) u = go (is_alike w u) refl
  where
    go : (b : Bool) → is_alike w u ≡ b → not (may_share t (cond b w (record { form = w.form; side = Other }))) ≡ not (may_share t w) || not (may_share t u)
    go true e = same-twice (may_share t w) (may_share t u) (alike-share t w u e)
    go false e = mixed-bars (has_form t.form w.form) t.side ∙ not-both (may_share t w) (may_share t u) (λ a b. cc (sym e ∙ both-share t w u a b))

stepped-bars : (p : ℕ) (t : Tenant) (o : Option Tenant) (e : Extent) → bars t (stepped p o e) ≡ bars t o || (covers e p && not (may_share t e.tenant))
stepped-bars p t o e = go (covers e p)
  where
    go : (b : Bool) → bars t (cond b (Some (joined o e.tenant)) o) ≡ bars t o || (b && not (may_share t e.tenant))
    go true = joined-bars t o e.tenant
    go false = or-none (bars t o)

-- an extent has the position, and another may not share it
abbrev bars_there : ℕ → Tenant → Extent → Bool
bars_there p t g = covers g p && not (may_share t g.tenant)

tenancy-bars : (p : ℕ) (t : Tenant) (o : Option Tenant) (es : List Extent) → bars t (tenancy_from p o es) ≡ bars t o || list_any (bars_there p t) es
tenancy-bars p t o [] = or-none (bars t o)
tenancy-bars p t o (e ∷ es) =
    tenancy-bars p t (stepped p o e) es
    ∙ (ap (λ b. b || list_any (bars_there p t) es) (stepped-bars p t o e) ∙ or-assoc (bars t o) (bars_there p t e) (list_any (bars_there p t) es))

-- A position at which one bars is one at which two clash, and the other way round.

common : (e g : Extent) (p : ℕ) → covers e p ≡ true → covers g p ≡ true → touch e g ≡ true
common e g p a b = grind (arith, nat_tests)

meeting : (e g : Extent) → 0 < e.length → 0 < g.length → touch e g ≡ true → (covers e (max e.first g.first) ≡ true) × (covers g (max e.first g.first) ≡ true)
meeting e g l m t = (grind (arith, nat_tests), grind (arith, nat_tests))

pub barred-clashes : (e : Extent) (es : List Extent) (p : ℕ) → covers e p ≡ true → bars e.tenant (tenancy p es) ≡ true → clashes_with_any es e ≡ true
barred-clashes e es p c b = go es (sym (tenancy-bars p e.tenant None es) ∙ b)
  where
    go : (es : List Extent) → list_any (bars_there p e.tenant) es ≡ true → list_any (clash e) es ≡ true
    go [] h = cc h
    go (g ∷ gs) h = elim (or-cases (bars_there p e.tenant g) (list_any (bars_there p e.tenant) gs) h) [
      | inl q ↦
          let r = and-parts (covers g p) (not (may_share e.tenant g.tenant)) q in
          let s = and-both (touch e g) (not (may_share e.tenant g.tenant)) (common e g p c r.0) r.1 in
          ap (λ b. b || list_any (clash e) gs) s
      | inr q ↦ or-right (clash e g) (list_any (clash e) gs) (go gs q)
    ]

-- each has a position
abbrev pub HaveSome : List Extent → Type 0
HaveSome [] = Unit {0}
HaveSome (e ∷ es) = (0 < e.length) × HaveSome es

pub clashes-barred : (e : Extent) (es : List Extent) → 0 < e.length → HaveSome es → clashes_with_any es e ≡ true → (p : ℕ) × (covers e p ≡ true) × (bars e.tenant (tenancy p es) ≡ true)
clashes-barred e es l some h = let q = go es some h in (q.0, q.1, tenancy-bars q.0 e.tenant None es ∙ q.2)
  where
    go : (es : List Extent) → HaveSome es → list_any (clash e) es ≡ true → (p : ℕ) × (covers e p ≡ true) × (list_any (bars_there p e.tenant) es ≡ true)
    go [] some h = cc h
    go (g ∷ gs) some h = elim (or-cases (clash e g) (list_any (clash e) gs) h) [
      | inl q ↦
          let r = and-parts (touch e g) (not (may_share e.tenant g.tenant)) q in
          let m = meeting e g l some.0 r.0 in
          (max e.first g.first, m.0, ap (λ b. b || list_any (bars_there (max e.first g.first) e.tenant) gs) (and-both (covers g (max e.first g.first)) (not (may_share e.tenant g.tenant)) m.1 r.1))
      | inr q ↦ let r = go gs some.1 q in (r.0, r.1, or-right (bars_there r.0 e.tenant g) (list_any (bars_there r.0 e.tenant) gs) r.2)
    ]
