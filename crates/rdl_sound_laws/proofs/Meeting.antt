-- The words of registers that may stand together, of those that software reads or writes.
use Rattle.std.proofs.Common.{◌≡◌, ◌∙◌, ◌≢◌, ◌⊎◌, inl, inr, ℕ, zero, suc, ◌+◌, ◌*◌, ◌/◌, ◌<◌, ◌≤◌, ◌==◌, ◌&&◌, ◌||◌, Bool, true, false, not, cond, List, [], ◌∷◌, ◌++◌, map, filter, flat_map, length, nat_lt, refl, sym, ap, subst, arith}
use Rattle.std.specs.List.{AllByRecursion, list_any}
use Rattle.std.proofs.lemmas.Bool.Decides.{nat_tests}
use Rattle.rb_base.specs.declared.place.Place.{Place}
use Rattle.rdl_base.specs.declared.fault.Fault.{Fault}
use Rattle.rdl_base.specs.declared.rule.Rule.TheVariants as rules
use Rattle.rdl_values.specs.Bodies.{standing_from}
use Rattle.rdl_values.specs.Faults.{at_, when}
use Rattle.rdl_values.specs.Instances.{Instance, upto}
use Rattle.plain_lemmas.proofs.Lists.{each-append, each-imp}
use Rattle.rdl_layers.specs.Fields.{fields_of}
use Rattle.rdl_nodes.proofs.Apart.{Across, Apart, all-of, apart-append, apart-flat_map, apart-imp, apart-map}
use Rattle.rdl_nodes.proofs.Members.{In, each-in, in-left, in-map, in-right, map-in}
use Rattle.std.proofs.lemmas.List.{map-append}
use Rattle.plain_lemmas.proofs.Bools.{and-left, and-right}
use Rattle.plain_lemmas.proofs.Numbers.{eq-same as equal-numbers}
use Rattle.rdl_addr.specs.Layout.{Placed}
use Rattle.rdl_addr.specs.Rules.{Footprint, Side, are_opposite, clashes_with, footprint, have_one_shape, is_read_only, is_write_only, may_share_address, meets, other, overlaps, reads_alone, side_of, writes_alone}
use Rattle.rb_model.specs.declared.block.Word.{Word}
use Rattle.rdl_rules.specs.Numbers.{Numbered, numbered, numbered_from}
use Rattle.rdl_rules.specs.Words.{shares_with, word_of, words_but, words_of}
use Rattle.rdl_fields.proofs.Lists.{apart-filter, filter-in, filter-true}
use Rattle.rdl_sound_laws.proofs.Placed.{Stands, access, nil-left, nil-right, when-nil, width}

-- Which registers may not clash.

abbrev pub Clear : Placed → Placed → Type 0
Clear p q = clashes_with (footprint q) (footprint p) ≡ false

pub none-any : {X : Type 0} (p : X → Bool) (xs : List X) → list_any p xs ≡ false → (x : X) → In xs x → p x ≡ false
none-any p [] e x h = absurd h
none-any p (y ∷ ys) e x h = go (p y) refl e h (λ f g. none-any p ys f x g)
  where
    go : (b : Bool) → p y ≡ b → (b || list_any p ys) ≡ false → (y ≡ x) ⊎ In ys x → (list_any p ys ≡ false → In ys x → p x ≡ false) → p x ≡ false
    go true q f g rest = cc f
    go false q f (inl s) rest = ap p (sym s) ∙ q
    go false q f (inr g) rest = rest f g

in-any : {X : Type 0} (p : X → Bool) (xs : List X) (x : X) → In xs x → p x ≡ true → list_any p xs ≡ true
in-any p [] x h e = absurd h
in-any p (y ∷ ys) x (inl s) e = ap (λ b. b || list_any p ys) (ap p s ∙ e)
in-any p (y ∷ ys) x (inr h) e = go (p y) (in-any p ys x h e)
  where
    go : (b : Bool) → list_any p ys ≡ true → (b || list_any p ys) ≡ true
    go true h = refl
    go false h = h

abbrev at_place : Placed → Place × Footprint
at_place p = (p.node.use_.name.place, footprint p)

abbrev faults_from : List (Place × Footprint) → List (Place × Footprint) → List Fault
faults_from before rest = flat_map (λ f. when (list_any (λ g. clashes_with f.1.1 g.1) f.0) (at_ rules.A5 f.1.0)) (standing_from before rest)

pub each-of : {X : Type 0} (P : X → Type 0) (xs : List X) → ((x : X) → In xs x → P x) → AllByRecursion P xs
each-of P [] h = tt
each-of P (x ∷ xs) h = (h x (inl refl), each-of P xs (λ y i. h y (inr i)))

-- each behind some is clear of all before it
behind : (before ps : List Placed) → faults_from (map at_place before) (map at_place ps) ≡ [] → ((p q : Placed) → In before p → In ps q → Clear p q) × Apart Clear ps
behind before [] e = ((λ p q i j. absurd j), tt)
behind before (q ∷ ps) e =
    let here : list_any (λ (g : Place × Footprint). clashes_with (footprint q) g.1) (map at_place before) ≡ false = when-nil (list_any (λ (g : Place × Footprint). clashes_with (footprint q) g.1) (map at_place before)) (at_ rules.A5 q.node.use_.name.place) (nil-left _ _ e) in
    let rest : faults_from (map at_place (before ++ (q ∷ []))) (map at_place ps) ≡ [] = ap (λ b. faults_from b (map at_place ps)) (map-append at_place before (q ∷ [])) ∙ nil-right _ _ e in
    let more = behind (before ++ (q ∷ [])) ps rest in
    ((λ p r i j. by p r i j here more.0), (each-of (Clear q) ps (λ r j. more.0 q r (in-right before (q ∷ []) q (inl refl)) j), more.1))
  where
    by : (p r : Placed) → In before p → (q ≡ r) ⊎ In ps r → list_any (λ (g : Place × Footprint). clashes_with (footprint q) g.1) (map at_place before) ≡ false → ((p r : Placed) → In (before ++ (q ∷ [])) p → In ps r → Clear p r) → Clear p r
    by p r i (inl s) here more = subst (Clear p) s (none-any (λ (g : Place × Footprint). clashes_with (footprint q) g.1) (map at_place before) here (at_place p) (in-map at_place before p i))
    by p r i (inr j) here more = more p r (in-left before (q ∷ []) p i) j

pub all-clear : (ps : List Placed) → overlaps ps ≡ [] → Apart Clear ps
all-clear ps e = (behind [] ps e).1

-- The words of a register lie in it, one behind the other.

step-in : (a w s k : ℕ) → (a ≡ 8) ⊎ (a ≡ 16) ⊎ (a ≡ 32) → s ≡ w / 8 → k < w / a → k * (a / 8) < s
step-in a w s k (inl e) is l = let m = subst (λ x. k < w / x) e l in subst (λ x. k * (x / 8) < s) (sym e) (omega (arith, m, is))
step-in a w s k (inr (inl e)) is l = let m = subst (λ x. k < w / x) e l in subst (λ x. k * (x / 8) < s) (sym e) (omega (arith, m, is))
step-in a w s k (inr (inr e)) is l = let m = subst (λ x. k < w / x) e l in subst (λ x. k * (x / 8) < s) (sym e) (omega (arith, m, is))

steps-differ : (a at i j : ℕ) → (a ≡ 8) ⊎ (a ≡ 16) ⊎ (a ≡ 32) → i ≢ j → at + i * (a / 8) ≢ at + j * (a / 8)
steps-differ a at i j (inl e) n = λ same. n (let m = subst (λ x. at + i * (x / 8) ≡ at + j * (x / 8)) e same in omega (arith, m))
steps-differ a at i j (inr (inl e)) n = λ same. n (let m = subst (λ x. at + i * (x / 8) ≡ at + j * (x / 8)) e same in omega (arith, m))
steps-differ a at i j (inr (inr e)) n = λ same. n (let m = subst (λ x. at + i * (x / 8) ≡ at + j * (x / 8)) e same in omega (arith, m))

pub below-upto : (n : ℕ) → AllByRecursion (λ k. k < n) (upto n)
below-upto zero = tt
below-upto (suc n) = each-append (λ k. k < suc n) (upto n) (n ∷ []) (each-imp (λ k. k < n) (λ k. k < suc n) (upto n) (λ k l. omega (arith, l)) (below-upto n)) (omega arith, tt)

apart-upto : (n : ℕ) → Apart (λ i j. i ≢ j) (upto n)
apart-upto zero = tt
apart-upto (suc n) = apart-append (λ i j. i ≢ j) (upto n) (n ∷ []) (apart-upto n) (tt, tt) (each-imp (λ k. k < n) (λ k. AllByRecursion (λ j. k ≢ j) (n ∷ [])) (upto n) (λ k l. ((λ e. absurd (omega (arith, l, e))), tt)) (below-upto n))

-- two words stand at different addresses
abbrev pub Differ : Word → Word → Type 0
Differ v w = v.address ≢ w.address

abbrev count_of : Numbered Placed → ℕ
count_of r = width r.register.node / access r.register.node

-- its address is one of the register's
abbrev Inside : Placed → ℕ → Type 0
Inside p a = (p.address ≤ a) × (a < p.address + p.size)

each-inside : (r : Numbered Placed) → Stands r.register → (w : Word) → In (words_of r) w → Inside r.register w.address
each-inside r s w h =
    let k = map-in (word_of r) (upto (count_of r)) w h in
    let low = each-in (λ j. j < count_of r) (upto (count_of r)) k.0 (below-upto (count_of r)) k.1 in
    let far = step-in (access r.register.node) (width r.register.node) r.register.size k.0 s.widths_.wide s.sized low in
    subst (λ (x : Word). Inside r.register x.address) k.2 (omega arith, omega (arith, far))

of-register : (r : Numbered Placed) → Stands r.register → Apart Differ (words_of r)
of-register r s = apart-map Differ (word_of r) (upto (count_of r))
    (apart-imp (λ k. Unit {0}) (λ i j. i ≢ j) (λ i j. Differ (word_of r i) (word_of r j)) (upto (count_of r))
    (λ i j p q n. steps-differ (access r.register.node) r.register.address i j s.widths_.wide n) (all-of (λ k. Unit {0}) (upto (count_of r)) (λ k. tt)) (apart-upto (count_of r)))

-- Registers that share an address.

meeting : (f g : Footprint) (a : ℕ) → f.address ≤ a → a < f.address + f.size → g.address ≤ a → a < g.address + g.size → meets f g ≡ true
meeting f g a h i j k = both (f.address) (f.size) (g.address) (g.size) a h i j k
  where
    both : (x s y t a : ℕ) → x ≤ a → a < x + s → y ≤ a → a < y + t → (nat_lt x (y + t) && nat_lt y (x + s)) ≡ true
    both x s y t a h i j k = grind (arith, nat_tests, h, i, j, k)

sharing : (m s : Bool) → m ≡ true → (m && not s) ≡ false → s ≡ true
sharing true true e h = refl
sharing true false e h = cc h
sharing false s e h = cc e

-- Two registers have one shape, and are on opposite sides.
pub record Share (p q : Placed) : Type 0 where
  pub at_one : q.address ≡ p.address
  pub widths_ : width q.node ≡ width p.node
  pub access_ : access q.node ≡ access p.node
  pub opposite : are_opposite (side_of q.node) (side_of p.node) ≡ true

pub share-from : (p q : Placed) → may_share_address (footprint q) (footprint p) ≡ true → Share p q
share-from p q e =
    let shape = and-left (have_one_shape (footprint q) (footprint p)) (are_opposite (side_of q.node) (side_of p.node)) e in
    let first = and-left ((q.address == p.address) && (width q.node == width p.node)) (access q.node == access p.node) shape in
    record {
      at_one = equal-numbers q.address p.address (and-left (q.address == p.address) (width q.node == width p.node) first);
      widths_ = equal-numbers (width q.node) (width p.node) (and-right (q.address == p.address) (width q.node == width p.node) first);
      access_ = equal-numbers (access q.node) (access p.node) (and-right ((q.address == p.address) && (width q.node == width p.node)) (access q.node == access p.node) shape);
      opposite = and-right (have_one_shape (footprint q) (footprint p)) (are_opposite (side_of q.node) (side_of p.node)) e;
    }

pub they-share : (p q : Placed) (a : ℕ) → Clear p q → Inside p a → Inside q a → Share p q
they-share p q a clear i j = share-from p q (sharing (meets (footprint q) (footprint p)) (may_share_address (footprint q) (footprint p)) (meeting (footprint q) (footprint p) a j.0 j.1 i.0 i.1) clear)

-- what is known of two tests of which opposite registers pass one each
abbrev pub Tells : (Instance → Bool) → (Instance → Bool) → Type 0
Tells test mate = (m n : Instance) → are_opposite (side_of m) (side_of n) ≡ true → ((test m ≡ true) × (mate n ≡ true)) ⊎ ((test n ≡ true) × (mate m ≡ true))

abbrev side-by : Bool → Bool → Side
side-by r w = cond r reads_alone (cond w writes_alone other)

opposite : (a b c d : Bool) → are_opposite (side-by a b) (side-by c d) ≡ true → ((b ≡ true) × (c ≡ true)) ⊎ ((d ≡ true) × (a ≡ true))
opposite true b true d e = cc e
opposite true b false true e = inr (refl, refl)
opposite true b false false e = cc e
opposite false true true d e = inl (refl, refl)
opposite false true false true e = cc e
opposite false true false false e = cc e
opposite false false true d e = cc e
opposite false false false true e = cc e
opposite false false false false e = cc e

pub reads-tell : Tells is_write_only is_read_only
reads-tell m n e = opposite (is_read_only m) (is_write_only m) (is_read_only n) (is_write_only n) e

swapped : {A B C D : Type 0} → (A × B) ⊎ (C × D) → (D × C) ⊎ (B × A)
swapped (inl h) = inr (h.1, h.0)
swapped (inr h) = inl (h.1, h.0)

pub writes-tell : Tells is_read_only is_write_only
writes-tell m n e = swapped (reads-tell m n e)

-- Registers by their numbers.

pub numbered-in : (k v : ℕ) (ps : List Placed) (r : Numbered Placed) → In (numbered_from (λ p. p.node) k v ps) r → In ps r.register
numbered-in k v [] r h = absurd h
numbered-in k v (p ∷ ps) r (inl e) = inl (ap (λ (x : Numbered Placed). x.register) e)
numbered-in k v (p ∷ ps) r (inr h) = inr (numbered-in (k + 1) (v + length (fields_of p.node)) ps r h)

each-numbered : (P : Placed → Type 0) (k v : ℕ) (ps : List Placed) → AllByRecursion P ps → AllByRecursion (λ r. P r.register) (numbered_from (λ p. p.node) k v ps)
each-numbered P k v [] h = tt
each-numbered P k v (p ∷ ps) h = (h.0, each-numbered P (k + 1) (v + length (fields_of p.node)) ps h.1)

apart-numbered : (R : Placed → Placed → Type 0) (k v : ℕ) (ps : List Placed) → Apart R ps → Apart (λ r s. R r.register s.register) (numbered_from (λ p. p.node) k v ps)
apart-numbered R k v [] h = tt
apart-numbered R k v (p ∷ ps) h = (each-numbered (R p) (k + 1) (v + length (fields_of p.node)) ps h.0, apart-numbered R (k + 1) (v + length (fields_of p.node)) ps h.1)

-- The words of those that are not masked.

pub shared-with : (mate : Instance → Bool) (ps : List Placed) (p q : Placed) → In ps q → q.address ≡ p.address → mate q.node ≡ true → shares_with mate ps p ≡ true
shared-with mate ps p q h at m = in-any (λ (x : Placed). (x.address == p.address) && mate x.node) ps q h (both (q.address == p.address) (mate q.node) (same q.address p.address at) m)
  where
    same : (x y : ℕ) → x ≡ y → (x == y) ≡ true
    same x y e = grind (arith, nat_tests, e)

    both : (a b : Bool) → a ≡ true → b ≡ true → (a && b) ≡ true
    both true true e f = refl
    both true false e f = cc f
    both false b e f = cc e

module _ (test mate : Instance → Bool) (tells : Tells test mate) (ps : List Placed) (clear : Apart Clear ps) (stands : (p : Placed) → In ps p → Stands p) where
  abbrev keeps : Numbered Placed → Bool
  keeps r = not (test r.register.node && shares_with mate ps r.register)

  abbrev kept : List (Numbered Placed)
  kept = filter keeps (numbered (λ p. p.node) ps)

  -- one that is kept passes the test only where it shares with none
  unmasked : (p q : Placed) → In ps q → q.address ≡ p.address → test p.node ≡ true → mate q.node ≡ true → not (test p.node && shares_with mate ps p) ≡ true → ⊥
  unmasked p q h at t m keep = clash (test p.node) (shares_with mate ps p) t (shared-with mate ps p q h at m) keep
    where
      clash : (a b : Bool) → a ≡ true → b ≡ true → not (a && b) ≡ true → ⊥
      clash true true e f g = cc g
      clash true false e f g = cc f
      clash false b e f g = cc e

  abbrev Kept : Numbered Placed → Type 0
  Kept r = In ps r.register × (keeps r ≡ true)

  apart-two : (r s : Numbered Placed) → Kept r → Kept s → Clear r.register s.register → Across Differ (words_of r) (words_of s)
  apart-two r s kr ks c = each-of (λ v. AllByRecursion (Differ v) (words_of s)) (words_of r) (λ v i. each-of (Differ v) (words_of s) (λ w j. λ e. none v w i j e))
    where
      none : (v w : Word) → In (words_of r) v → In (words_of s) w → v.address ≡ w.address → ⊥
      none v w i j e =
          let here = each-inside r (stands r.register kr.0) v i in
          let there = each-inside s (stands s.register ks.0) w j in
          let share = they-share r.register s.register v.address c here (subst (Inside s.register) (sym e) there) in
          elim (tells s.register.node r.register.node share.opposite) [
            | inl h ↦ unmasked s.register r.register kr.0 (sym share.at_one) h.0 h.1 ks.1
            | inr h ↦ unmasked r.register s.register ks.0 share.at_one h.0 h.1 kr.1
          ]

  each-kept : AllByRecursion Kept kept
  each-kept = each-of Kept kept (λ r h. (numbered-in 0 0 ps r (filter-in keeps (numbered (λ p. p.node) ps) r h), filter-true keeps (numbered (λ p. p.node) ps) r h))

  pub words-apart : Apart Differ (words_but test mate ps)
  words-apart = apart-flat_map Differ words_of kept
      (apart-imp Kept (λ r s. Clear r.register s.register) (λ r s. Across Differ (words_of r) (words_of s)) kept (λ r s p q c. apart-two r s p q c) each-kept
      (apart-filter keeps (λ r s. Clear r.register s.register) (numbered (λ p. p.node) ps) (apart-numbered Clear 0 0 ps clear)))
      (each-imp Kept (λ r. Apart Differ (words_of r)) kept (λ r k. of-register r (stands r.register k.0)) each-kept)
