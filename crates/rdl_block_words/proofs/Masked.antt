-- The registers that are masked, and the words of the others, one by one.
use Rattle.std.proofs.Common.{◌≡◌, ◌∙◌, ℕ, zero, suc, ◌+◌, ◌≤◌, ◌==◌, ◌&&◌, ◌||◌, Bool, true, false, not, cond, List, [], ◌∷◌, ◌++◌, drop, filter, flat_map, length, slice_get, append_assoc, append-nil, Some, refl, sym, ap, subst, arith}
use Rattle.std.specs.List.{list_any}
use Rattle.rdl_tree.specs.declared.node.Elab.{Elab}
use Rattle.rdl_layers.specs.Fields.{fields_of}
use Rattle.rdl_addr.specs.Layout.{Placed}
use Rattle.rb_model.specs.declared.block.Word.{Word}
use Rattle.rdl_rules.specs.Numbers.{Numbered, numbered, numbered_from}
use Rattle.rdl_rules.specs.Words.{shares_with, words_but, words_of}
use Rattle.rdl_sizes.proofs.Turns.{drop-at}
use Rattle.rdl_block_words.specs.declared.access.Access.{Access}
use Rattle.rdl_block_words.specs.declared.access.Access.TheVariants.{Reads, Writes}
use Rattle.rdl_block_words.specs.declared.entry.PlacedRegister.{PlacedRegister}
use Rattle.rdl_block_words.specs.Access.{is_only, is_taken, only, opposite, words_for}
use Rattle.rdl_block_words.specs.Entries.{AreEntriesOf, IsEntryOf}

pub same-words : (access : Access) (ps : List Placed) → words_for access ps ≡ words_but (only (opposite access)) (only access) ps
same-words Reads ps = refl
same-words Writes ps = refl

pub only-is : (e : Elab) (access : Access) (x : PlacedRegister) (r : Numbered Placed) → IsEntryOf e x r → is_only access x ≡ only access r.register.node
only-is e Reads x r h = h.read_only
only-is e Writes x r h = h.write_only

any-numbered : (p : Placed → Bool) (k v : ℕ) (ps : List Placed) → list_any (λ r. p r.register) (numbered_from (λ q. q.node) k v ps) ≡ list_any p ps
any-numbered p k v [] = refl
any-numbered p k v (q ∷ ps) = ap (λ b. p q || b) (any-numbered p (k + 1) (v + length (fields_of q.node)) ps)

module _ (e : Elab) (access : Access) where
  taken-by : (xs : List PlacedRegister) (rs : List (Numbered Placed)) (a : ℕ) → AreEntriesOf e xs rs → is_taken access xs a ≡ list_any (λ r. r.register.address == a && only access r.register.node) rs
  taken-by [] [] a h = refl
  taken-by [] (r ∷ rs) a h = absurd h
  taken-by (x ∷ xs) [] a h = absurd h
  taken-by (x ∷ xs) (r ∷ rs) a h = (λ i. (h.0.shape_.address_ i == a && only-is e access x r h.0 i) || taken-by xs rs a h.1 i)

  pub taken-shares : (xs : List PlacedRegister) (ps : List Placed) (p : Placed) → AreEntriesOf e xs (numbered (λ q. q.node) ps) → is_taken access xs p.address ≡ shares_with (only access) ps p
  taken-shares xs ps p h = taken-by xs (numbered (λ (q : Placed). q.node) ps) p.address h ∙ any-numbered (λ q. q.address == p.address && only access q.node) 0 0 ps

pub entry-at : (e : Elab) (xs : List PlacedRegister) (rs : List (Numbered Placed)) → AreEntriesOf e xs rs → (i : ℕ) (x : PlacedRegister) → slice_get xs i ≡ Some x → (r : Numbered Placed) × (slice_get rs i ≡ Some r) × IsEntryOf e x r
entry-at e [] rs h i x at = cc at
entry-at e (y ∷ xs) [] h i x at = absurd h
entry-at e (y ∷ xs) (r ∷ rs) h zero x at = let same : y ≡ x = cc at in (r, refl, subst (λ z. IsEntryOf e z r) same h.0)
entry-at e (y ∷ xs) (r ∷ rs) h (suc i) x at = entry-at e xs rs h.1 i x at

-- the register is not masked
abbrev pub keeps : Access → List Placed → Numbered Placed → Bool
keeps access ps r = not (only (opposite access) r.register.node && shares_with (only access) ps r.register)

pub kept-by : (e : Elab) (access : Access) (xs : List PlacedRegister) (ps : List Placed) (x : PlacedRegister) (r : Numbered Placed) → AreEntriesOf e xs (numbered (λ q. q.node) ps) → IsEntryOf e x r → (taken masked : Bool) → taken ≡ is_taken access xs x.shape.address
    → masked ≡ (is_only (opposite access) x && taken) → keeps access ps r ≡ not masked
kept-by e access xs ps x r all h taken masked is result =
    sym (ap not (result ∙ (λ i. only-is e (opposite access) x r h i && (is ∙ (ap (is_taken access xs) h.shape_.address_ ∙ taken-shares e access xs ps r.register all)) i)))

module _ (p : Numbered Placed → Bool) (rs : List (Numbered Placed)) (i : ℕ) (old : List Word) (all : List Word) (before : old ++ flat_map words_of (filter p (drop i rs)) ≡ all) where
  abbrev rest : List Word
  rest = flat_map words_of (filter p (drop (i + 1) rs))

  one : suc i ≡ i + 1
  one = omega arith

  split : (r : Numbered Placed) (b : Bool) → slice_get rs i ≡ Some r → p r ≡ b → flat_map words_of (filter p (drop i rs)) ≡ cond b (words_of r) [] ++ flat_map words_of (filter p (drop (i + 1) rs))
  split r b at is =
      ap (λ xs. flat_map words_of (filter p xs)) (drop-at rs i r at)
      ∙ (ap (λ n. flat_map words_of (cond (p r) (r ∷ filter p (drop n rs)) (filter p (drop n rs)))) one ∙ go b is)
    where
      go : (c : Bool) → p r ≡ c → flat_map words_of (cond (p r) (r ∷ filter p (drop (i + 1) rs)) (filter p (drop (i + 1) rs))) ≡ cond c (words_of r) [] ++ flat_map words_of (filter p (drop (i + 1) rs))
      go true q = rw q refl
      go false q = rw q refl

  pub kept-more : (r : Numbered Placed) (new : List Word) → slice_get rs i ≡ Some r → p r ≡ true → new ≡ old ++ words_of r → new ++ flat_map words_of (filter p (drop (i + 1) rs)) ≡ all
  kept-more r new at is put = ap (λ ws. ws ++ rest) put ∙ (append_assoc old (words_of r) rest ∙ (ap (λ ws. old ++ ws) (sym (split r true at is)) ∙ before))

  pub masked-more : (r : Numbered Placed) → slice_get rs i ≡ Some r → p r ≡ false → old ++ flat_map words_of (filter p (drop (i + 1) rs)) ≡ all
  masked-more r at is = ap (λ ws. old ++ ws) (sym (split r false at is)) ∙ before

  pub all-done : length rs ≤ i → old ≡ all
  all-done past = sym (append-nil old) ∙ (ap (λ xs. old ++ flat_map words_of (filter p xs)) (sym (nothing rs i past)) ∙ before)
    where
      nothing : {X : Type 0} (xs : List X) (k : ℕ) → length xs ≤ k → drop k xs ≡ []
      nothing [] zero l = refl
      nothing [] (suc k) l = refl
      nothing (x ∷ xs) zero l = absurd (omega (arith, l))
      nothing (x ∷ xs) (suc k) l = nothing xs k (omega (arith, l))
