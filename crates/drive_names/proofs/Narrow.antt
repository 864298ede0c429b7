-- The words that names mean are within 32 bits.
use Rattle.std.specs.List.{AllByRecursion, enumerate_from}
use Rattle.std.proofs.Common.{◌≡◌, ⊎_elim, ℕ, zero, suc, ◌+◌, ◌<◌, ◌≤◌, ◌^◌, ◌==◌, Bool, true, false, cond, bytes_eq, List, [], ◌∷◌, map, slice_get, Option, None, Some, refl, sym, ap, subst, ◌∙◌, arith}
use Rattle.v_design.proofs.Names.{each_append}
use Rattle.rb_model.specs.declared.block.Block.{Block}
use Rattle.rb_model.specs.declared.block.Word.{Word}
use Rattle.report_text.specs.Lines.{path_at}
use Rattle.rb_model.specs.Kept.{when}
use Rattle.rb_model.specs.References.{Each}
use Rattle.rb_model.specs.Sound.{IsSound, WordIsSound}
use Rattle.drive_names.specs.declared.table.Meaning.{Meaning}
use Rattle.drive_names.specs.declared.words.Named.{Named}
use Rattle.drive_names.specs.Named.{meaning_of, named_words, names_at, names_of, other_names, under}
use Rattle.plain_lemmas.proofs.Lists.{each-flat_map as of_parts, each-get as each_at}

-- an address and a width of 32 bits
abbrev pub IsNarrow : Meaning → Type 0
IsNarrow m = (m.at < 2 ^ 32) × (m.width ≤ 32)

pub meaning_has : (Q : Meaning → Type 0) (ns : List Named) (name : List ℕ) (m : Meaning) → AllByRecursion (λ n. Q n.meaning) ns → meaning_of ns name ≡ Some m → Q m
meaning_has Q [] name m h e = cc e
meaning_has Q (n ∷ ns) name m h e = go (bytes_eq n.name name) (meaning_has Q ns name m h.1) e
  where
    go : (b : Bool) → (meaning_of ns name ≡ Some m → Q m) → cond b (Some n.meaning) (meaning_of ns name) ≡ Some m → Q m
    go true rest e = let same : n.meaning ≡ m = cc e in subst Q same h.0
    go false rest e = rest e

numbered : {X : Type 0} (Q : ℕ × X → Type 0) (n : ℕ) (xs : List X) → ((i : ℕ) (x : X) → slice_get xs i ≡ Some x → Q (n + i, x)) → AllByRecursion Q (enumerate_from n xs)
numbered Q n [] h = tt
numbered {X = X} Q n (x ∷ xs) h = (
  (let here : n + 0 ≡ n = omega arith in subst (λ k. Q (k, x)) here (h 0 x refl)),
  numbered Q (n + 1) xs (λ i y e. let at : n + suc i ≡ n + 1 + i = omega arith in subst (λ k. Q (k, y)) at (h (suc i) y e)),
)

as_recursion : {X : Type 0} (P : X → Type 0) (xs : List X) → Each P xs → AllByRecursion P xs
as_recursion P [] h = tt
as_recursion P (x ∷ xs) h = (h.0, as_recursion P xs h.1)

wide : (b : Block) (w : Word) → WordIsSound b w → w.width ≤ 32
wide b w s = ⊎_elim (λ e. omega (arith, e)) (λ r. ⊎_elim (λ e. omega (arith, e)) (λ e. omega (arith, e)) r) s.wide

-- words at one place have one address
one_address : (rs ws : List Word) (k : ℕ) (r w : Word) → map (λ x. x.address) rs ≡ map (λ x. x.address) ws → slice_get rs k ≡ Some r → slice_get ws k ≡ Some w → w.address ≡ r.address
one_address [] ws k r w e a b = cc a
one_address (x ∷ xs) [] k r w e a b = cc b
one_address (x ∷ xs) (y ∷ ys) zero r w e a b =
    let p : x ≡ r = cc a in let q : y ≡ w = cc b in let f : x.address ≡ y.address = cc e in
    sym (ap (λ z. z.address) q) ∙ (sym f ∙ ap (λ z. z.address) p)
one_address (x ∷ xs) (y ∷ ys) (suc k) r w e a b = let rest : map (λ z. z.address) xs ≡ map (λ z. z.address) ys = cc e in one_address xs ys k r w rest a b

of_word : (b : Block) (w : Word) → IsNarrow (record { at = w.address; width = w.width }) → AllByRecursion (λ n. IsNarrow n.meaning) (names_of b w)
of_word b w h = (h, go (w.number == 0))
  where
    go : (c : Bool) → AllByRecursion (λ n. IsNarrow n.meaning) (when c (under w (path_at b w.reg)))
    go true = (h, tt)
    go false = tt

pub narrow : (b : Block) → IsSound b → AllByRecursion (λ w. w.address < 2 ^ 32) b.reads → (name : List ℕ) (m : Meaning) → meaning_of (named_words b) name ≡ Some m → IsNarrow m
narrow b sound low name m e = meaning_has IsNarrow (named_words b) name m (of_parts (λ n. IsNarrow n.meaning) (names_at b) (enumerate_from 0 b.reads) (numbered (λ r. AllByRecursion (λ n. IsNarrow n.meaning) (names_at b r)) 0 b.reads at)) e
  where
    reads : (k : ℕ) (r : Word) → slice_get b.reads k ≡ Some r → IsNarrow (record { at = r.address; width = r.width })
    reads k r e = (each_at (λ w. w.address < 2 ^ 32) b.reads k r low e, wide b r (each_at (WordIsSound b) b.reads k r (as_recursion (WordIsSound b) b.reads sound.reads) e))

    writes : (k : ℕ) (r w : Word) → slice_get b.reads k ≡ Some r → slice_get b.writes k ≡ Some w → IsNarrow (record { at = w.address; width = w.width })
    writes k r w a b' =
        let same = one_address b.reads b.writes k r w sound.same_addresses a b' in
        let small = (reads k r a).0 in
        (omega (arith, same, small), wide b w (each_at (WordIsSound b) b.writes k w (as_recursion (WordIsSound b) b.writes sound.writes) b'))

    other : (k : ℕ) (r : Word) (o : Option Word) → slice_get b.reads k ≡ Some r → slice_get b.writes k ≡ o → AllByRecursion (λ n. IsNarrow n.meaning) (other_names b r o)
    other k r None a e = tt
    other k r (Some w) a e = go (w.reg == r.reg)
      where
        go : (c : Bool) → AllByRecursion (λ n. IsNarrow n.meaning) (cond c [] (names_of b w))
        go true = tt
        go false = of_word b w (writes k r w a e)

    at : (i : ℕ) (r : Word) → slice_get b.reads i ≡ Some r → AllByRecursion (λ n. IsNarrow n.meaning) (names_at b (0 + i, r))
    at i r e =
        let same : 0 + i ≡ i = omega arith in
        subst (λ k. AllByRecursion (λ n. IsNarrow n.meaning) (names_at b (k, r))) (sym same)
        (each_append (λ n. IsNarrow n.meaning) (names_of b r) (other_names b r (slice_get b.writes i)) (of_word b r (reads i r e)) (other i r (slice_get b.writes i) e refl))
