-- What a read of a record does to the records that a reader has left.
use Rattle.std.proofs.Common.{◌≡◌, ℕ, zero, suc, ◌+◌, ◌<◌, Bool, true, false, if◌then◌else◌, Option, Some, None, List, [], ◌∷◌, ◌++◌, length, refl, ap, sym, subst, ◌∙◌, arith, ◌⊎◌, inl, inr, add-one}
use denote.Ref.{Bor}
use Rattle.csv.specs.Machine.{Read, step, is_end, ends_at_end, fields_after, field_after, next_record}
use Rattle.csv.specs.Reading.{Reached, ReadRecord, default_config, reader_state, records_from, records_next, strip_bom}
use Rattle.csv.specs.declared.parser.Config.{Config}
use Rattle.csv.specs.declared.parser.State.{State}
use Rattle.csv.specs.declared.parser.State.TheVariants as st
use Rattle.csv.proofs.ReadFacts.{rows-more, rows-end}
use Rattle.stim_csv.specs.PinTable.{Cells, records_of}
use Rattle.stim_csv.specs.Records.{Source, Reads, bytes_left, records_left, records_after}
use Rattle.plain_lemmas.proofs.Options.{some_is}

-- a read leaves fewer bytes, or none at a record's start
abbrev Shrinks : ℕ → Read → Type 0
Shrinks n p = (length p.2 < n) ⊎ ((p.1 ≡ st.StartRecord) × (p.2 ≡ []))

shrinks_some : (n : ℕ) (p q : Read) → Some p ≡ Some q → Shrinks n p → Shrinks n q
shrinks_some n p q e h = let same : p ≡ q = cc in subst (Shrinks n) same h

next_shrinks : (cfg : Config) (s : State) (fields : Cells) (field xs : List ℕ) (p : Read) → next_record cfg s fields field xs ≡ Some p → Shrinks (length xs) p
unfolding next_record
next_shrinks cfg s fields field [] p h = go (ends_at_end s) h
  where
    go : (b : Bool) → (if b then Some (fields ++ (field ∷ []), st.StartRecord, []) else None) ≡ Some p → Shrinks 0 p
    go true e = shrinks_some 0 _ p e (inr (refl, refl))
    go false e = cc
next_shrinks cfg s fields field (c ∷ rest) p h =
    go (is_end (step cfg s c).1) h (next_shrinks cfg (step cfg s c).0 (fields_after (step cfg s c).1 fields field) (field_after (step cfg s c).1 c field) rest p)
  where
    go : (b : Bool) → (if b then Some (fields_after (step cfg s c).1 fields field, (step cfg s c).0, rest)
        else next_record cfg (step cfg s c).0 (fields_after (step cfg s c).1 fields field) (field_after (step cfg s c).1 c field) rest) ≡ Some p
        → (next_record cfg (step cfg s c).0 (fields_after (step cfg s c).1 fields field) (field_after (step cfg s c).1 c field) rest ≡ Some p → Shrinks (length rest) p)
        → Shrinks (suc (length rest)) p
    go true e ih = shrinks_some _ _ p e (inl (omega arith))
    go false e ih = elim (ih e) [ inl l ↦ inl (omega arith) | inr r ↦ inr r ]

-- no record is left at the end of the bytes
records_end : (cfg : Config) (n : ℕ) → records_from cfg n st.StartRecord [] ≡ []
unfolding records_from next_record
records_end cfg zero = refl
records_end cfg (suc n) = refl

-- a read that takes bytes takes some
-- the records of bytes, however many are asked for past their number
records_enough : (cfg : Config) (n m : ℕ) (s : State) (xs : List ℕ) → length xs < n → length xs < m → records_from cfg n s xs ≡ records_from cfg m s xs
unfolding records_from
records_enough cfg zero m s xs p q = absurd (omega (arith, p))
records_enough cfg (suc n) zero s xs p q = absurd (omega (arith, q))
records_enough cfg (suc n) (suc m) s xs p q = go (next_record cfg s [] [] xs) (next_shrinks cfg s [] [] xs) (records_enough cfg n m)
  where
    go : (o : Option Read) → ((r : Read) → o ≡ Some r → Shrinks (length xs) r)
        → ((t : State) (zs : List ℕ) → length zs < n → length zs < m → records_from cfg n t zs ≡ records_from cfg m t zs) → records_next (records_from cfg n) o ≡ records_next (records_from cfg m) o
    go None h ih = refl
    go (Some r) h ih = ap (λ rest. r.0 ∷ rest) (elim (h r refl) [
      | inl shorter ↦ ih r.1 r.2 (omega arith) (omega arith)
      | inr ended ↦ rw (ended.0, ended.1) (records_end cfg n ∙ sym (records_end cfg m))
    ])

-- the records after one that was taken
pub taken_after : (s s' : State) (xs ys : List ℕ) (cells : Cells) → Reached default_config s xs (cells ∷ []) s' ys → records_after s (Some xs) ≡ cells ∷ records_after s' (Some ys)
unfolding Reached records_from
taken_after s s' xs ys cells (p, next, is, ended) =
    rw (add-one (length xs), next, is, ← ended.0, ← ended.1) (ap (λ rest. p.0 ∷ rest) (enough p.1 p.2 (next_shrinks default_config s [] [] xs p next)))
  where
    enough : (t : State) (zs : List ℕ) → Shrinks (length xs) (p.0, t, zs) → records_from default_config (length xs) t zs ≡ records_from default_config (length zs + 1) t zs
    enough t zs h = elim h [
      | inl shorter ↦ records_enough default_config (length xs) (length zs + 1) t zs shorter (omega arith)
      | inr ended ↦ rw (ended.0, ended.1) (records_end default_config (length xs) ∙ sym (records_end default_config 1))
    ]

-- no record is left where none comes next
pub none_left : (s : State) (xs : List ℕ) → next_record default_config s [] [] xs ≡ None → records_after s (Some xs) ≡ []
unfolding records_from
none_left s xs h = rw (add-one (length xs), h) refl

reached_none : (s : State) (xs : List ℕ) → Reached default_config s xs [] s xs
unfolding Reached
reached_none s xs = (refl, refl)

-- a record that was taken was the first of those left
pub record_taken : (a b : Source) (cells : Cells) → Reads a → ReadRecord (λ s. Some s.now) a b true cells → records_left a ≡ cells ∷ records_left b
record_taken a b cells reads r =
    let (y, at) = some_is (bytes_left a) reads.going in
    let (z, at_z, reached) = rows-more (λ (s : Bor (List ℕ)). Some s.now) a b cells default_config a.state y y [] reads.plain at (reached_none a.state y) r in
    rw (at, at_z) (taken_after a.state b.state y z cells reached)

-- a read that found no record leaves none
pub record_missed : (a b : Source) (cells : Cells) → Reads a → ReadRecord (λ s. Some s.now) a b false cells → records_left a ≡ []
record_missed a b cells reads r =
    let (y, at) = some_is (bytes_left a) reads.going in
    rw at (none_left a.state y (rows-end (λ (s : Bor (List ℕ)). Some s.now) a b cells default_config y reads.plain at r))

-- a reader at the start has all records left
pub at_start : (reader : Source) (bytes : List ℕ) → reader_state reader ≡ st.StartRecord → bytes_left reader ≡ Some (strip_bom bytes) → records_left reader ≡ records_of bytes
at_start reader bytes state source = rw (state, source) refl
