-- The rules on the bits of fields, by numbers, are those of the definitions.
use Rattle.std.specs.List.{list_any, All}
use Rattle.std.proofs.Common.{◌≡◌, ◌∙◌, ◌↔◌, ℕ, suc, ◌+◌, ◌-◌, ◌≤◌, Bool, true, false, not, cond, ◌&&◌, ◌||◌, ltb, leb, Option, None, Some, option_to_list, List, [], ◌∷◌, ◌++◌, map, flat_map, Contains, refl, ap, sym, subst, arith}
use Rattle.std.proofs.lemmas.List.{map-append}
use Rattle.std.proofs.lemmas.Bool.Decides.{nat_tests}
use Rattle.rdl_base.specs.declared.fault.Fault.{Fault}
use Rattle.rdl_base.specs.declared.keyword.Keyword.{Keyword}
use Rattle.rdl_base.specs.declared.keyword.Keyword.TheVariants as word
use Rattle.rdl_base.specs.declared.rule.Rule.TheVariants as rules
use Rattle.rdl_props.specs.declared.prop.Prop.TheVariants as prop
use Rattle.rdl_values.specs.Bodies.{standing, standing_from}
use Rattle.rdl_values.specs.Faults.{at_, when}
use Rattle.rdl_values.specs.Instances.{Instance}
use Rattle.rdl_layout.specs.declared.claim.Claim.{Claim}
use Rattle.rdl_layout.specs.declared.extent.Side.{Side}
use Rattle.rdl_layout.specs.declared.extent.Side.TheVariants.{Reads, Writes, Other}
use Rattle.rdl_layout.specs.Claims.{clashing_claims, when_clashing, extents}
use Rattle.rdl_layout.specs.Extents.{clash, is_opposite}
use Rattle.rdl_layers.specs.Forms.{Meaning, unset, flag, number, text, named, intr, hard, enum_of, reference}
use Rattle.rdl_layers.specs.Phase4.{number_at, range_of, width_of}
use Rattle.rdl_layers.specs.Settings.{setting}
use Rattle.rdl_addr.specs.Bits as bits
use Rattle.rdl_addr.specs.Bits.{Bits}
use Rattle.rdl_addr.specs.Rules.{clashes, is_outside, may_share_bits, of_bits, only_reads, only_writes}
use Rattle.rdl_layout.specs.Fields.{IsSpan, bits_at, bits_from, claim_of, faults, high_in, low_in, outside}
use Rattle.rdl_addr.specs.Fields.{AllAreBitsOf, AreBitsOf, AreFieldsOf, IsFieldOf, side_of}
use Rattle.rdl_layout.specs.declared.bits.Field.{Field}
use Rattle.rdl_layout.specs.declared.bits.FieldBits.{FieldBits}
use Rattle.rdl_addr.proofs.Members.{apart, in-from, in-to, together}

-- What software does.

by_word : (w : Keyword) → only_reads (named w) && only_writes (named w) ≡ false
by_word word.R = refl
by_word word.W = refl
by_word word.W1 = refl
by_word _ = refl

exclusive : (m : Meaning) → only_reads m && only_writes m ≡ false
exclusive unset = refl
exclusive (flag b) = refl
exclusive (number n) = refl
exclusive (text t) = refl
exclusive (named w) = by_word w
exclusive (intr e) = refl
exclusive (hard b) = refl
exclusive (enum_of n s) = refl
exclusive (reference p i s q) = refl

sided : Bool → Bool → Side
sided r w = cond r Reads (cond w Writes Other)

sides : (r w s v : Bool) → r && w ≡ false → s && v ≡ false → is_opposite (sided r w) (sided s v) ≡ (r && v) || (w && s)
unfolding sided
sides true true s v e f = cc e
sides r w true true e f = cc f
sides true false true false e f = refl
sides true false false true e f = refl
sides true false false false e f = refl
sides false true true false e f = refl
sides false true false true e f = refl
sides false true false false e f = refl
sides false false true false e f = refl
sides false false false true e f = refl
sides false false false false e f = refl

opposites : (m n : Meaning) → is_opposite (side_of m) (side_of n) ≡ may_share_bits m n
unfolding sided
opposites m n = sides (only_reads m) (only_writes m) (only_reads n) (only_writes n) (exclusive m) (exclusive n)

-- Bits that clash.

claim_from : Bits → Claim
claim_from b = claim_of (record { place = b.node.use_.name.place; high = b.high; low = b.low; side = side_of (setting b.node prop.Sw) })

reaches : (low high x : ℕ) → low ≤ high → ltb x (low + (high - low + 1)) ≡ leb x high
reaches low high x l = grind (arith, nat_tests)

same-clash : (b c : Bits) → b.low ≤ b.high → c.low ≤ c.high → clash (claim_from b).extent (claim_from c).extent ≡ clashes b c
unfolding claim_from
same-clash b c l m = λ i. reaches c.low c.high b.low m i && reaches b.low b.high c.low l i && not (opposites (setting b.node prop.Sw) (setting c.node prop.Sw) i)

-- each has a bit
abbrev pub Spans : List Bits → Type 0
Spans [] = Unit {0}
Spans (b ∷ bs) = (b.low ≤ b.high) × Spans bs

spans-push : (bs : List Bits) (b : Bits) → Spans bs → b.low ≤ b.high → Spans (bs ++ b ∷ [])
spans-push [] b h l = (l, tt)
spans-push (c ∷ cs) b h l = (h.0, spans-push cs b h.1 l)

any-clash : (b : Bits) (before : List Bits) → b.low ≤ b.high → Spans before → list_any (clash (claim_from b).extent) (extents (map claim_from before)) ≡ list_any (clashes b) before
any-clash b [] l h = refl
any-clash b (c ∷ cs) l h = λ i. same-clash b c l h.0 i || any-clash b cs l h.1 i

-- B2 at a field that clashes with one before it
abbrev when_shared : List Bits × Bits → List Fault
when_shared s = when (list_any (clashes s.1) s.0) (at_ rules.B2 s.1.node.use_.name.place)

same-places : (b : Bits) → (claim_from b).place ≡ b.node.use_.name.place
unfolding claim_from
same-places b = refl

shared-from : (before rest : List Bits) → Spans before → Spans rest → flat_map (when_clashing rules.B2) (standing_from (map claim_from before) (map claim_from rest)) ≡ flat_map when_shared (standing_from before rest)
shared-from before [] h k = refl
shared-from before (b ∷ bs) h k =
    let more = shared-from (before ++ (b ∷ [])) bs (spans-push before b h k.0) k.1 in
    let head : when_clashing rules.B2 (map claim_from before, claim_from b) ≡ when_shared (before, b) = λ i. when (any-clash b before k.0 h i) (at_ rules.B2 (same-places b i)) in
    let tail = ap (λ l. flat_map (when_clashing rules.B2) (standing_from l (map claim_from bs))) (sym (map-append claim_from before (b ∷ []))) ∙ more in
    λ i. head i ++ tail i

claims-are : (cs : List FieldBits) (bs : List Bits) → AllAreBitsOf cs bs → map claim_of cs ≡ map claim_from bs
unfolding claim_from
claims-are [] [] h = refl
claims-are [] (b ∷ bs) h = absurd h
claims-are (c ∷ cs) [] h = absurd h
claims-are (c ∷ cs) (b ∷ bs) h =
    let is = h.0 in
    let same : c ≡ record { place = b.node.use_.name.place; high = b.high; low = b.low; side = side_of (setting b.node prop.Sw) } = λ i. record { place = is.place_ i; high = is.high_ i; low = is.low_ i; side = is.side_ i } in
    λ i. claim_of (same i) ∷ claims-are cs bs h.1 i

spans-of : (cs : List FieldBits) (bs : List Bits) → AllAreBitsOf cs bs → All IsSpan cs → Spans bs
spans-of [] [] h k = tt
spans-of [] (b ∷ bs) h k = absurd h
spans-of (c ∷ cs) [] h k = absurd h
spans-of (c ∷ cs) (b ∷ bs) h k =
    let s = (k 0 c (omega arith)).some in let e = h.0.high_ in let f = h.0.low_ in
    (omega (arith, s, e, f), spans-of cs bs h.1 (λ i x m. k (suc i) x (omega (arith, m))))

all-shared : (cs : List FieldBits) (bs : List Bits) → AllAreBitsOf cs bs → All IsSpan cs → clashing_claims rules.B2 (map claim_of cs) ≡ flat_map when_shared (standing bs)
all-shared cs bs h k = ap (clashing_claims rules.B2) (claims-are cs bs h) ∙ shared-from [] bs tt (spans-of cs bs h k)

-- B1 at a field outside
abbrev when_outside : Instance → Bits → List Fault
when_outside r b = when (is_outside r b) (at_ rules.B1 b.node.use_.name.place)

all-outside : (w : ℕ) (r : Instance) → w ≡ number_at r prop.Regwidth → (before : List Bits) (cs : List FieldBits) (bs : List Bits) → AllAreBitsOf cs bs → flat_map (outside w) cs ≡ flat_map (λ s. when_outside r s.1) (standing_from before bs)
all-outside w r e before [] [] h = refl
all-outside w r e before [] (b ∷ bs) h = absurd h
all-outside w r e before (c ∷ cs) [] h = absurd h
all-outside w r e before (c ∷ cs) (b ∷ bs) h =
    let is = h.0 in
    λ i. when (leb (e i) (is.high_ i)) (at_ rules.B1 (is.place_ i)) ++ all-outside w r e (before ++ (b ∷ [])) cs bs h.1 i

pub same-faults : (w : ℕ) (r : Instance) → w ≡ number_at r prop.Regwidth → (cs : List FieldBits) (bs : List Bits) → AllAreBitsOf cs bs → All IsSpan cs
    → (f : Fault) → Contains (faults w cs) f ↔ Contains (flat_map (of_bits r) (standing bs)) f
same-faults w r e cs bs h k f =
    let A : List Bits × Bits → List Fault = λ s. when_outside r s.1 in
    let is : faults w cs ≡ flat_map when_shared (standing bs) ++ flat_map A (standing bs) = λ i. all-shared cs bs h k i ++ all-outside w r e [] cs bs h i in (
      (λ c. in-to (flat_map (of_bits r) (standing bs)) f (together A when_shared (standing bs) f (in-from (flat_map when_shared (standing bs) ++ flat_map A (standing bs)) f (subst (λ l. Contains l f) is c)))),
      (λ c. subst (λ l. Contains l f) (sym is) (in-to (flat_map when_shared (standing bs) ++ flat_map A (standing bs)) f (apart A when_shared (standing bs) f (in-from (flat_map (of_bits r) (standing bs)) f c)))),
    )

-- The bits themselves.

high_of : ℕ → ℕ → List (ℕ × ℕ) → ℕ
high_of next width (r ∷ rs) = r.0
high_of next width [] = next + width - 1

low_of : ℕ → List (ℕ × ℕ) → ℕ
low_of next (r ∷ rs) = r.1
low_of next [] = next

given-high : (next w : ℕ) (n : Instance) (rs : List (ℕ × ℕ)) → width_of n ≡ w → range_of n ≡ rs → (bits.bits_at next n).high ≡ high_of next w rs
unfolding high_of
given-high next w n [] q e = rw e (ap (λ x. next + x - 1) q)
given-high next w n (r ∷ rs) q e = rw e refl

given-low : (next : ℕ) (n : Instance) (rs : List (ℕ × ℕ)) → range_of n ≡ rs → (bits.bits_at next n).low ≡ low_of next rs
unfolding low_of
given-low next n [] e = rw e refl
given-low next n (r ∷ rs) e = rw e refl

given-node : (next : ℕ) (n : Instance) (rs : List (ℕ × ℕ)) → range_of n ≡ rs → (bits.bits_at next n).node ≡ n
given-node next n [] e = rw e refl
given-node next n (r ∷ rs) e = rw e refl

high-in : (next width : ℕ) (o : Option (ℕ × ℕ)) → high_in next width o ≡ high_of next width (option_to_list o)
unfolding high_of
high-in next width None = refl
high-in next width (Some r) = refl

low-in : (next : ℕ) (o : Option (ℕ × ℕ)) → low_in next o ≡ low_of next (option_to_list o)
unfolding low_of
low-in next None = refl
low-in next (Some r) = refl

one-bits : (next : ℕ) (f : Field) (n : Instance) → IsFieldOf f n → AreBitsOf (bits_at next f) (bits.bits_at next n)
one-bits next f n is =
    let node = given-node next n (range_of n) refl in
    record {
      place_ = is.place_ ∙ ap (λ m. m.use_.name.place) (sym node);
      high_ = high-in next f.width f.range ∙ ((λ i. high_of next (is.width_ i) (is.range_ i)) ∙ sym (given-high next (width_of n) n (range_of n) refl refl));
      low_ = low-in next f.range ∙ (ap (low_of next) is.range_ ∙ sym (given-low next n (range_of n) refl));
      side_ = is.side_ ∙ ap (λ m. side_of (setting m prop.Sw)) (sym node);
    }

pub all-bits : (next : ℕ) (fs : List Field) (ns : List Instance) → AreFieldsOf fs ns → AllAreBitsOf (bits_from next fs) (bits.bits_from next ns)
all-bits next [] [] h = tt
all-bits next [] (n ∷ ns) h = absurd h
all-bits next (f ∷ fs) [] h = absurd h
all-bits next (f ∷ fs) (n ∷ ns) h =
    let one = one-bits next f n h.0 in
    let e : (bits_at next f).high + 1 ≡ (bits.bits_at next n).high + 1 = ap (λ x. x + 1) one.high_ in
    (one, subst (λ x. AllAreBitsOf (bits_from x fs) (bits.bits_from ((bits.bits_at next n).high + 1) ns)) (sym e) (all-bits ((bits.bits_at next n).high + 1) fs ns h.1))
