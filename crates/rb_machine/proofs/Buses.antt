-- The access that the bus carries.
use Rattle.std.proofs.Common.{◌≡◌, ℕ, ◌<◌, ◌≤◌, ◌==◌, Bool, true, false, not, ◌&&◌, nat_lt, if◌then◌else◌, Option, Some, None, is_none, is_some, List, [], ◌∷◌, length, map, position, get_or, refl, sym, ap, ◌∙◌, subst, arith, inl, inr, ◌⊎◌}
use Rattle.std.specs.List.{position_or_len}
use Rattle.std.specs.List.Sorted.{IsStrictlyIncreasing}
use Rattle.std.specs.Option.{option_map_or}
use Rattle.std.proofs.lemmas.List.Sums.{position_or_len_is}
use Rattle.std.proofs.lemmas.List.Quantifiers.{position-Some}
use Rattle.std.proofs.lemmas.List.{length-map}
use Rattle.v_design.specs.Expr.{bit_of}
use Rattle.rb_model.specs.declared.block.Block.{Block}
use Rattle.rb_model.specs.declared.block.Word.{Word}
use Rattle.rb_model.specs.Kept.{Map, Waited, has_wait}
use Rattle.rb_model.specs.Protocol as protocol
use Rattle.rb_model.specs.Items as items
use Rattle.rb_model.specs.Run.{carried, carries, is_access, word_at}
use Rattle.rb_model.specs.Sound.{IsSound}
use Rattle.rb_machine.specs.declared.bus.Access.{Access}
use Rattle.rb_machine.specs.declared.bus.Access.TheVariants as access
use Rattle.rb_machine.specs.declared.bus.Transfer.{Transfer}
use Rattle.rb_machine.specs.Transfers.{IsThere, IsTransfer, access_seen}
use Rattle.plain_lemmas.proofs.Numbers.{differ, differ_above}
use Rattle.plain_lemmas.proofs.Lists.{get_or-below as rises}

pub never_falls : (xs : List ℕ) → IsStrictlyIncreasing xs → (i j : ℕ) → i ≤ j → j < length xs → get_or xs i 0 ≤ get_or xs j 0
never_falls xs h i j l m = by (same_or_below i j l)
  where
    same_or_below : (i j : ℕ) → i ≤ j → (i ≡ j) ⊎ (i < j)
    same_or_below i j l = grind arith

    by : (i ≡ j) ⊎ (i < j) → get_or xs i 0 ≤ get_or xs j 0
    by (inl e) = let q : get_or xs i 0 ≡ get_or xs j 0 = ap (λ n. get_or xs n 0) e in omega (arith, q)
    by (inr k) = omega (arith, rises xs h i j k m)

equal : (a b : ℕ) → b ≡ a → (a == b) ≡ true
equal a b h = grind arith

position_is : (p : ℕ → Bool) (xs : List ℕ) (i : ℕ) → position_or_len p xs ≡ i → i < length xs → Some i ≡ position p xs
position_is p xs i e l = let t : nat_lt i (length xs) ≡ true = grind arith in rw (e, t) refl

position_past : (p : ℕ → Bool) (xs : List ℕ) → position_or_len p xs ≡ length xs → None ≡ position p xs
position_past p xs e = let t : nat_lt (length xs) (length xs) ≡ false = grind arith in rw (e, t) refl

-- the address found, and the address that there isn't
pub found_at : (xs : List ℕ) (x i : ℕ) → IsStrictlyIncreasing xs → i < length xs → get_or xs i 0 ≡ x → Some i ≡ position (λ a. x == a) xs
found_at xs x i h l e = position_is (λ a. x == a) xs i
    (let low : i ≤ length xs = omega (arith, l) in
    position_or_len_is (λ a. x == a) xs i 0 low (λ k b. differ x (get_or xs k 0) (subst (λ y. get_or xs k 0 < y) e (rises xs h k i b l))) (λ b. equal x (get_or xs i 0) e)) l

pub found_nowhere : (xs : List ℕ) (x i : ℕ) → ((k : ℕ) → k < i → get_or xs k 0 < x) → ((k : ℕ) → i ≤ k → k < length xs → x < get_or xs k 0) → None ≡ position (λ a. x == a) xs
found_nowhere xs x i low high = position_past (λ a. x == a) xs
    (position_or_len_is (λ a. x == a) xs (length xs) 0 (let e : length xs ≤ length xs = omega arith in e)
    (λ k l. by k l (below_or_not k i)) (λ l. absurd (omega (arith, l))))
  where
    below_or_not : (k i : ℕ) → (k < i) ⊎ (i ≤ k)
    below_or_not k i = grind arith

    by : (k : ℕ) → k < length xs → (k < i) ⊎ (i ≤ k) → (x == get_or xs k 0) ≡ false
    by k l (inl b) = differ x (get_or xs k 0) (low k b)
    by k l (inr b) = differ_above x (get_or xs k 0) (high k b l)

-- the word of an address is that of its place among the addresses
position_mapped : {X : Type 0} (g : X → ℕ) (p : ℕ → Bool) (xs : List X) → position_or_len p (map g xs) ≡ position_or_len (λ x. p (g x)) xs
position_mapped g p [] = refl
position_mapped g p (x ∷ xs) = let e : position_or_len p (map g xs) ≡ position_or_len (λ x. p (g x)) xs = position_mapped g p xs in rw e refl

word_mapped : (ws : List Word) (a : ℕ) → position (λ b. a == b) (map (λ w. w.address) ws) ≡ word_at ws a
word_mapped ws a =
    let e : position_or_len (λ b. a == b) (map (λ w. w.address) ws) ≡ position_or_len (λ w. a == w.address) ws = position_mapped (λ w. w.address) (λ b. a == b) ws in
    let l : length (map (λ w. w.address) ws) ≡ length ws = length-map ws (λ w. w.address) in
    rw (e, l) refl

pub word_found : (b : Block) → IsSound b → (addresses : List ℕ) (a : ℕ) (o : Option ℕ) → addresses ≡ map (λ w. w.address) b.reads → o ≡ position (λ b. a == b) addresses
    → (o ≡ word_at b.reads a) × (o ≡ word_at b.writes a)
word_found b sound addresses a o same is = (
  is ∙ (ap (position (λ b. a == b)) same ∙ word_mapped b.reads a),
  is ∙ (ap (position (λ b. a == b)) (same ∙ sound.same_addresses) ∙ word_mapped b.writes a),
)

waits_one : (w : Bool) (x : ℕ) → x ≡ bit_of w → (x == 1) ≡ w
waits_one true x e = rw e refl
waits_one false x e = rw e refl

closes_as : (h a w : Bool) → (a && (h && w)) ≡ (h && a && w)
closes_as true true w = refl
closes_as true false w = refl
closes_as false true w = refl
closes_as false false w = refl

there_from : (b : Block) (ac : Access) (c : Bool) (write d : ℕ) (o : Option ℕ) → o ≡ word_at b.reads d → o ≡ word_at b.writes d → (x : ℕ)
    → access_seen ac ≡ (if c then (if write == 0 then option_map_or items.Read o items.NoAccess else option_map_or (λ i. items.Write i x) o items.NoAccess) else items.NoAccess) → IsThere b ac
there_from b access.Off c write d o p q x e = tt
there_from b (access.Read i) c write d o p q x e = by c (write == 0) o refl e
  where
    by : (c z : Bool) (o' : Option ℕ) → o ≡ o' → items.Read i ≡ (if c then (if z then option_map_or items.Read o' items.NoAccess else option_map_or (λ i. items.Write i x) o' items.NoAccess) else items.NoAccess) → i < length b.reads
    by true true (Some j) r s = let t : i ≡ j = cc s in (position-Some (λ w. d == w.address) b.reads i (record { address = 0; width = 0; reg = 0; number = 0; slots = [] }) (sym p ∙ (r ∙ ap Some (sym t)))).0
    by true true None r s = cc s
    by true false (Some j) r s = cc s
    by true false None r s = cc s
    by false z o' r s = cc s
there_from b (access.Write i y) c write d o p q x e = by c (write == 0) o refl e
  where
    by : (c z : Bool) (o' : Option ℕ) → o ≡ o' → items.Write i y ≡ (if c then (if z then option_map_or items.Read o' items.NoAccess else option_map_or (λ i. items.Write i x) o' items.NoAccess) else items.NoAccess) → i < length b.writes
    by true false (Some j) r s = let t : i ≡ j = cc s in (position-Some (λ w. d == w.address) b.writes i (record { address = 0; width = 0; reg = 0; number = 0; slots = [] }) (sym q ∙ (r ∙ ap Some (sym t)))).0
    by true false None r s = cc s
    by true true (Some j) r s = cc s
    by true true None r s = cc s
    by false z o' r s = cc s

same_carried : (c : Bool) (write : ℕ) (o r w : Option ℕ) (x : ℕ) → o ≡ r → o ≡ w
    → (if c then (if write == 0 then option_map_or items.Read o items.NoAccess else option_map_or (λ i. items.Write i x) o items.NoAccess) else items.NoAccess)
    ≡ (if c then (if write == 0 then option_map_or items.Read r items.NoAccess else option_map_or (λ i. items.Write i x) w items.NoAccess) else items.NoAccess)
same_carried c write o r w x p q = rw (← p, ← q) refl

pub is_transfer : (b : Block) → IsSound b → (p : protocol.Bus) (m : Map) (addresses : List ℕ) (o : Option ℕ) (waited : Bool) (t : Transfer) → addresses ≡ map (λ w. w.address) b.reads → o ≡ position (λ b. p.address == b) addresses
    → m Waited ≡ bit_of waited → t.carries ≡ (is_access p && not (has_wait b && waited)) → t.closes ≡ (is_access p && (has_wait b && waited))
    → access_seen t.access ≡ (if t.carries then (if p.write == 0 then option_map_or items.Read o items.NoAccess else option_map_or (λ i. items.Write i p.data_in) o items.NoAccess) else items.NoAccess)
    → t.unmapped ≡ is_none o → IsTransfer b p m t
is_transfer b sound p m addresses o waited t same found w carrying closing access unmapped =
    let words = word_found b sound addresses p.address o same found in
    let one : (m Waited == 1) ≡ waited = waits_one waited (m Waited) w in
    let c : t.carries ≡ carries b p m = carrying ∙ ap (λ z. is_access p && not (has_wait b && z)) (sym one) in
    record {
      there = there_from b t.access t.carries p.write p.address o words.0 words.1 p.data_in access;
      access = access ∙ (same_carried t.carries p.write o _ _ p.data_in words.0 words.1 ∙ ap (λ z. if z then carried b p else items.NoAccess) c);
      carries = c;
      closes = closing ∙ (closes_as (has_wait b) (is_access p) waited ∙ ap (λ z. has_wait b && is_access p && z) (sym one));
      unmapped = unmapped ∙ ap is_none words.0;
    }

pub none_is : (o : Option ℕ) (r : Bool) → is_some o ≡ not r → r ≡ is_none o
none_is None true e = refl
none_is None false e = cc e
none_is (Some x) true e = cc e
none_is (Some x) false e = refl
