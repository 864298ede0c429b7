-- The rules on registers, by numbers, are those on the layout.
use Rattle.std.specs.List.{list_any}
use Rattle.std.proofs.Common.{◌≡◌, ◌∙◌, suc, ◌+◌, not, ◌&&◌, ◌||◌, ◌==◌, ◌%◌, ◌/◌, ◌^◌, List, [], ◌∷◌, ◌++◌, length, map, flat_map, ltb, refl, ap, sym}
use Rattle.std.proofs.lemmas.List.{map-append}
use Rattle.rb_base.specs.declared.place.Place.{Place}
use Rattle.rdl_base.specs.declared.rule.Rule.TheVariants as rules
use Rattle.rdl_values.specs.Bodies.{standing, standing_from}
use Rattle.rdl_values.specs.Faults.{at_, when}
use Rattle.rdl_layout.specs.declared.claim.Claim.{Claim}
use Rattle.rdl_layout.specs.Claims.{clashing_claims, when_clashing, extents}
use Rattle.rdl_layout.specs.Extents.{clash, is_opposite}
use Rattle.rdl_addr.specs.Layout.{Placed}
use Rattle.rdl_addr.specs.Rules as rule
use Rattle.rdl_addr.specs.Rules.{Footprint, footprint, overlaps, overlaps_of, clashes_with}
use Rattle.rdl_layout.specs.Registers.{claim_of, misaligned, too_large}
use Rattle.rdl_addr.specs.Registers.{AreRegistersOf, side_of}
use Rattle.rdl_layout.specs.declared.register.Register.{Register}
use Rattle.plain_lemmas.proofs.Lists.{any-map}

-- lists that are mapped

standing-map : {X Y : Type 0} (f : X → Y) (before xs : List X) → standing_from (map f before) (map f xs) ≡ map (λ s. (map f s.0, f s.1)) (standing_from before xs)
standing-map f before [] = refl
standing-map f before (x ∷ xs) = ap (λ l. (map f before, f x) ∷ l) (ap (λ b. standing_from b (map f xs)) (sym (map-append f before (x ∷ []))) ∙ standing-map f (before ++ (x ∷ [])) xs)

flat-map-map : {X Y Z : Type 0} (g : Y → List Z) (f : X → Y) (xs : List X) → flat_map g (map f xs) ≡ flat_map (λ x. g (f x)) xs
flat-map-map g f [] = refl
flat-map-map g f (x ∷ xs) = ap (λ l. g (f x) ++ l) (flat-map-map g f xs)

-- a register's bytes, from its footprint
claim_from : Place × Footprint → Claim
claim_from f = record { place = f.0; extent = record { first = f.1.address; length = f.1.size; tenant = record { form = record { address = f.1.address; regwidth = f.1.regwidth; accesswidth = f.1.accesswidth }; side = side_of f.1.side } } }

opposites : (a b : rule.Side) → is_opposite (side_of a) (side_of b) ≡ rule.are_opposite a b
opposites rule.reads_alone rule.reads_alone = refl
opposites rule.reads_alone rule.writes_alone = refl
opposites rule.reads_alone rule.other = refl
opposites rule.writes_alone rule.reads_alone = refl
opposites rule.writes_alone rule.writes_alone = refl
opposites rule.writes_alone rule.other = refl
opposites rule.other rule.reads_alone = refl
opposites rule.other rule.writes_alone = refl
opposites rule.other rule.other = refl

same-clash : (f g : Place × Footprint) → clash (claim_from f).extent (claim_from g).extent ≡ clashes_with f.1 g.1
unfolding claim_from
same-clash f g = ap (λ o. rule.meets f.1 g.1 && not (rule.have_one_shape f.1 g.1 && o)) (opposites f.1.side g.1.side)

one-claim : (s : List (Place × Footprint) × (Place × Footprint)) → when_clashing rules.A5 (map claim_from s.0, claim_from s.1) ≡ when (list_any (λ g. clashes_with s.1.1 g.1) s.0) (at_ rules.A5 s.1.0)
unfolding claim_from
one-claim s =
    let e : list_any (clash (claim_from s.1).extent) (extents (map claim_from s.0)) ≡ list_any (λ g. clashes_with s.1.1 g.1) s.0 =
    any-map (clash (claim_from s.1).extent) (λ c. c.extent) (map claim_from s.0)
    ∙ (any-map (λ c. clash (claim_from s.1).extent c.extent) claim_from s.0 ∙ ap (λ p. list_any p s.0) (λ i g. same-clash s.1 g i)) in
    ap (λ b. when b (at_ rules.A5 s.1.0)) e

same-overlaps : (fs : List (Place × Footprint)) → clashing_claims rules.A5 (map claim_from fs) ≡ overlaps_of fs
same-overlaps fs =
    ap (flat_map (when_clashing rules.A5)) (standing-map claim_from [] fs)
    ∙ (flat-map-map (when_clashing rules.A5) (λ s. (map claim_from s.0, claim_from s.1)) (standing fs) ∙ ap (λ k. flat_map k (standing fs)) (λ i s. one-claim s i))

claims-are : (rs : List Register) (ps : List Placed) → AreRegistersOf rs ps → map claim_of rs ≡ map claim_from (map (λ p. (p.node.use_.name.place, footprint p)) ps)
unfolding claim_from
claims-are [] [] h = refl
claims-are [] (p ∷ ps) h = absurd h
claims-are (r ∷ rs) [] h = absurd h
claims-are (r ∷ rs) (p ∷ ps) h =
    let is = h.0 in
    let e : claim_of r ≡ claim_from (p.node.use_.name.place, footprint p) =
    λ i. record { place = is.place_ i; extent = record { first = is.address_ i; length = is.size_ i; tenant = record { form = record { address = is.address_ i; regwidth = is.regwidth_ i; accesswidth = is.accesswidth_ i }; side = is.side_ i } } } in
    λ i. e i ∷ claims-are rs ps h.1 i

pub overlapping : (rs : List Register) (ps : List Placed) → AreRegistersOf rs ps → clashing_claims rules.A5 (map claim_of rs) ≡ overlaps ps
overlapping rs ps h = ap (clashing_claims rules.A5) (claims-are rs ps h) ∙ same-overlaps (map (λ p. (p.node.use_.name.place, footprint p)) ps)

pub all-misaligned : (rs : List Register) (ps : List Placed) → AreRegistersOf rs ps → flat_map misaligned rs ≡ flat_map rule.misaligned ps
all-misaligned [] [] h = refl
all-misaligned [] (p ∷ ps) h = absurd h
all-misaligned (r ∷ rs) [] h = absurd h
all-misaligned (r ∷ rs) (p ∷ ps) h =
    let is = h.0 in λ i. when (not (is.address_ i % (is.accesswidth_ i / 8) == 0)) (at_ rules.A3 (is.place_ i)) ++ all-misaligned rs ps h.1 i

pub all-too-large : (rs : List Register) (ps : List Placed) → AreRegistersOf rs ps → flat_map too_large rs ≡ flat_map rule.too_large ps
all-too-large [] [] h = refl
all-too-large [] (p ∷ ps) h = absurd h
all-too-large (r ∷ rs) [] h = absurd h
all-too-large (r ∷ rs) (p ∷ ps) h = let is = h.0 in λ i. when (ltb (2 ^ 32) (is.address_ i + is.size_ i)) (at_ rules.A4 (is.place_ i)) ++ all-too-large rs ps h.1 i

pub as-many : (rs : List Register) (ps : List Placed) → AreRegistersOf rs ps → length rs ≡ length ps
as-many [] [] h = refl
as-many [] (p ∷ ps) h = absurd h
as-many (r ∷ rs) [] h = absurd h
as-many (r ∷ rs) (p ∷ ps) h = ap suc (as-many rs ps h.1)
