-- A script that is read line by line means what its lines mean one by one.
use Rattle.std.proofs.Common.{◌≡◌, ◌↔◌, ◌⊎◌, inl, inr, ℕ, zero, suc, ◌+◌, ◌-◌, ◌<◌, ◌≤◌, Bool, true, false, nat_lt, if◌then◌else◌, Option, None, Some, Ok, Err, List, [], ◌∷◌, ◌++◌, drop, length, slice_get, refl, ap, sym, ◌∙◌, subst, arith}
use Rattle.std.proofs.lemmas.Bool.{cases_lt}
use Rattle.std.proofs.lemmas.Bool.Decides.{nat_tests}
use Rattle.std.proofs.lemmas.Option.{slice_get_within}
use Rattle.rb_model.specs.declared.block.Block.{Block}
use Rattle.drive_lang.specs.declared.order.Order.{Order}
use Rattle.drive_lang.specs.declared.order.Line.{Line}
use Rattle.drive_lang.specs.Steps.{Step, played, vectors_of}
use Rattle.drive_lang.specs.declared.error.DriveError.{DriveError}
use Rattle.drive_lang.specs.declared.error.DriveError.TheVariants.{Many}
use Rattle.drive_lang.specs.Lines.{lines_of, words_of}
use Rattle.drive_lang.specs.Meanings.{IsError, IsFirstError, IsScript, IsWrong, asked, asked_by, judged, judged_at, judged_text, vectors_before, vectors_judged}
use Rattle.drive_lang.specs.Orders.{Judged, order_of, spelled, within}
use Rattle.drive_lang.specs.Scripts.{Lines, at_first, in_front, lines_from, most_vectors, ordered, script_of, steps_in, unless_blank}
use Rattle.plain_lemmas.proofs.Lists.{drop-rest as rest_at}

-- Places.

nothing_at : {X : Type 0} (xs : List X) (k j : ℕ) → drop k xs ≡ [] → k ≤ j → slice_get xs j ≡ None
nothing_at [] k j e le = refl
nothing_at (x ∷ xs) zero j e le = cc e
nothing_at (x ∷ xs) (suc k) zero e le = absurd (omega (arith, le))
nothing_at (x ∷ xs) (suc k) (suc j) e le = nothing_at xs k j e (omega (arith, le))

first_at : {X : Type 0} (xs : List X) (k : ℕ) (x : X) (rest : List X) → drop k xs ≡ x ∷ rest → slice_get xs k ≡ Some x
first_at [] zero x rest e = cc e
first_at [] (suc k) x rest e = cc e
first_at (y ∷ ys) zero x rest e = let same : y ≡ x = cc e in ap Some same
first_at (y ∷ ys) (suc k) x rest e = first_at ys k x rest e

one_more : (k : ℕ) → suc k ≡ k + 1
one_more k = omega arith

next_at : {X : Type 0} (xs : List X) (k : ℕ) (x : X) (rest : List X) → drop k xs ≡ x ∷ rest → drop (k + 1) xs ≡ rest
next_at xs k x rest e = ap (λ n. drop n xs) (sym (one_more k)) ∙ rest_at xs k x rest e

module _ (b : Block) (texts : List (List ℕ)) where
  -- from a place on, this is the first error
  record IsFirstFrom (k : ℕ) (e : DriveError) : Type 0 where
    place : ℕ
    from : k ≤ place
    inside : place < length texts
    error : IsError b texts place e
    first : (j : ℕ) (x : DriveError) → k ≤ j → j < place → IsError b texts j x → ⊥

  -- from a place on there is none, and these lines ask for something
  record AreFrom (k : ℕ) (rest : List (List ℕ)) (ls : List Line) : Type 0 where
    right : (j : ℕ) (x : DriveError) → k ≤ j → IsError b texts j x → ⊥
    lines : ls ≡ asked b (k + 1) rest

  abbrev IsRead : (k : ℕ) (rest : List (List ℕ)) → Lines → Type 0
  IsRead k rest (Ok ls) = AreFrom k rest ls
  IsRead k rest (Err e) = IsFirstFrom k e

  -- an error at a place, by how the line there is judged
  error_is : (k : ℕ) (o : Option Judged) (x : DriveError) → judged_at b texts k ≡ o → IsError b texts k x → IsWrong (k + 1) (vectors_before b texts k) o x
  error_is k o x e h = subst (λ j. IsWrong (k + 1) (vectors_before b texts k) j x) e h

  is_error : (k : ℕ) (o : Option Judged) (x : DriveError) → judged_at b texts k ≡ o → IsWrong (k + 1) (vectors_before b texts k) o x → IsError b texts k x
  is_error k o x e h = subst (λ j. IsWrong (k + 1) (vectors_before b texts k) j x) (sym e) h

  vectors_more : (k : ℕ) (o : Option Judged) → judged_at b texts k ≡ o → vectors_before b texts (k + 1) ≡ vectors_before b texts k + vectors_judged o
  vectors_more k o e = ap (vectors_before b texts) (sym (one_more k)) ∙ ap (λ j. vectors_before b texts k + vectors_judged j) e

  -- a place where no error is, in front of others
  module _ (k : ℕ) (here : (x : DriveError) → IsError b texts k x → ⊥) where
    none_from : ((j : ℕ) (x : DriveError) → k + 1 ≤ j → IsError b texts j x → ⊥) → (j : ℕ) (x : DriveError) → k ≤ j → IsError b texts j x → ⊥
    none_from later j x le h = go (cases_lt k j)
      where
        go : (k < j) ⊎ (j ≤ k) → ⊥
        go (inl less) = later j x (omega (arith, less)) h
        go (inr more) = let same : j ≡ k = omega (arith, le, more) in here x (subst (λ i. IsError b texts i x) same h)

    first_from : (e : DriveError) → IsFirstFrom (k + 1) e → IsFirstFrom k e
    first_from e f = record {
      place = f.place;
      from = let a = f.from in omega (arith, a);
      inside = f.inside;
      error = f.error;
      first = λ j x le less h. go j x le less h (cases_lt k j);
    }
      where
        go : (j : ℕ) (x : DriveError) → k ≤ j → j < f.place → IsError b texts j x → (k < j) ⊎ (j ≤ k) → ⊥
        go j x le less h (inl low) = f.first j x (omega (arith, low)) less h
        go j x le less h (inr more) = let same : j ≡ k = omega (arith, le, more) in here x (subst (λ i. IsError b texts i x) same h)

  -- the error of the line at a place
  error_here : (k : ℕ) (text : List ℕ) (e : DriveError) → slice_get texts k ≡ Some text → IsError b texts k e → IsFirstFrom k e
  error_here k text e there h = record {
    place = k;
    from = omega arith;
    inside = slice_get_within texts k text there;
    error = h;
    first = λ j x le less other. absurd (omega (arith, le, less));
  }

  -- what the lines behind a place are read as, with so much room left
  abbrev Again : ℕ → List (List ℕ) → Type 0
  Again k rest = (left : ℕ) → left + vectors_before b texts (k + 1) ≡ most_vectors → IsRead (k + 1) rest (lines_from b (k + 1 + 1) left rest)

  read : (rest : List (List ℕ)) (k room : ℕ) → drop k texts ≡ rest → room + vectors_before b texts k ≡ most_vectors → IsRead k rest (lines_from b (k + 1) room rest)
  read [] k room there full = record {
    right = λ j x le h. error_is j None x (ap (judged_text b (j + 1)) (nothing_at texts k j there le)) h;
    lines = refl;
  }
  read (text ∷ rest) k room there full = by_words (λ left e. read rest (k + 1) left (next_at texts k text rest there) e) (words_of text) refl
    where
      at : slice_get texts k ≡ Some text
      at = first_at texts k text rest there

      judged_is : judged_at b texts k ≡ judged b (k + 1) (words_of text)
      judged_is = ap (judged_text b (k + 1)) at

      -- the line means nothing
      blank : judged b (k + 1) (words_of text) ≡ None → (m : Lines) → IsRead (k + 1) rest m → IsRead k (text ∷ rest) m
      blank none (Ok ls) r = record {
        right = none_from k (λ x h. error_is k None x (judged_is ∙ none) h) r.right;
        lines = r.lines ∙ ap (λ j. asked_by (k + 1) j ++ asked b (k + 1 + 1) rest) (sym none);
      }
      blank none (Err e) r = first_from k (λ x h. error_is k None x (judged_is ∙ none) h) e r

      -- there is room for its vectors
      roomy : (o : Order) → vectors_of o ≤ room → judged b (k + 1) (words_of text) ≡ Some (Ok o) → (x : DriveError) → IsError b texts k x → ⊥
      roomy o few is x h = let w = error_is k (Some (Ok o)) x (judged_is ∙ is) h in let more = w.0 in omega (arith, more, few, full)

      front : (o : Order) → vectors_of o ≤ room → judged b (k + 1) (words_of text) ≡ Some (Ok o) → (m : Lines) → IsRead (k + 1) rest m → IsRead k (text ∷ rest) (in_front (record { number = k + 1; order = o }) m)
      front o few is (Ok ls) r = record {
        right = none_from k (roomy o few is) r.right;
        lines = ap (λ xs. record { number = k + 1; order = o } ∷ xs) r.lines ∙ ap (λ j. asked_by (k + 1) j ++ asked b (k + 1 + 1) rest) (sym is);
      }
      front o few is (Err e) r = first_from k (roomy o few is) e r

      by_room : Again k rest → (o : Order) (c : Bool) → nat_lt room (vectors_of o) ≡ c → judged b (k + 1) (words_of text) ≡ Some (Ok o)
          → IsRead k (text ∷ rest) (ordered (k + 1) (if c then Err (Many (k + 1)) else Ok o) (λ order. lines_from b (k + 1 + 1) (room - vectors_of order) rest))
      by_room again o true less is =
          let l : room < vectors_of o = grind (arith, nat_tests, less) in
          error_here k text (Many (k + 1)) at (is_error k (Some (Ok o)) (Many (k + 1)) (judged_is ∙ is) (omega (arith, l, full), refl))
      by_room again o false less is =
          let few : vectors_of o ≤ room = grind (arith, nat_tests, less) in
          let more = vectors_more k (Some (Ok o)) (judged_is ∙ is) in
          front o few is (lines_from b (k + 1 + 1) (room - vectors_of o) rest) (again (room - vectors_of o) (omega (arith, more, few, full)))

      by_judgement : Again k rest → (j : Judged) → judged b (k + 1) (words_of text) ≡ Some j
          → IsRead k (text ∷ rest) (ordered (k + 1) (within (k + 1) room j) (λ order. lines_from b (k + 1 + 1) (room - vectors_of order) rest))
      by_judgement again (Err e) is = error_here k text e at (is_error k (Some (Err e)) e (judged_is ∙ is) refl)
      by_judgement again (Ok o) is = by_room again o (nat_lt room (vectors_of o)) refl is

      by_words : Again k rest → (ws : List (List ℕ)) → words_of text ≡ ws
          → IsRead k (text ∷ rest) (unless_blank ws (lines_from b (k + 1 + 1) room rest) (ordered (k + 1) (order_of b (k + 1) room ws) (λ order. lines_from b (k + 1 + 1) (room - vectors_of order) rest)))
      by_words again [] e =
          let none : judged b (k + 1) (words_of text) ≡ None = ap (judged b (k + 1)) e in
          let more = vectors_more k None (judged_is ∙ none) in
          blank none (lines_from b (k + 1 + 1) room rest) (again room (omega (arith, more, full)))
      by_words again (w ∷ ws) e = by_judgement again (spelled b (k + 1) (w ∷ ws)) (ap (judged b (k + 1)) e)

  -- a line has one error
  one_error : (k : ℕ) (o : Option Judged) (e x : DriveError) → IsWrong (k + 1) (vectors_before b texts k) o e → IsWrong (k + 1) (vectors_before b texts k) o x → e ≡ x
  one_error k None e x h other = absurd h
  one_error k (Some (Err own)) e x h other = h ∙ sym other
  one_error k (Some (Ok o)) e x h other = h.1 ∙ sym other.1

all_read : (b : Block) (bytes : List ℕ) → IsRead b (lines_of bytes) 0 (lines_of bytes) (lines_from b 1 most_vectors (lines_of bytes))
all_read b bytes = read b (lines_of bytes) (lines_of bytes) 0 most_vectors refl refl

pub meant : (b : Block) (bytes : List ℕ) (steps : List Step) → (script_of b bytes ≡ Ok steps) ↔ IsScript b bytes steps
meant b bytes steps = go (lines_from b 1 most_vectors (lines_of bytes)) (all_read b bytes)
  where
    go : (m : Lines) → IsRead b (lines_of bytes) 0 (lines_of bytes) m → (steps_in b m ≡ Ok steps) ↔ IsScript b bytes steps
    go (Ok ls) r = (
      (λ e. record {
        right = λ k x h. r.right k x (omega arith) h;
        plays = let same : played ls (at_first b) ≡ steps = cc e in sym same ∙ ap (λ xs. played xs (at_first b)) r.lines;
      }),
      (λ s. ap Ok (ap (λ xs. played xs (at_first b)) r.lines ∙ sym s.plays)),
    )
    go (Err x) r = ((λ e. cc e), (λ s. absurd (s.right r.place x r.error)))

pub first : (b : Block) (bytes : List ℕ) (e : DriveError) → (script_of b bytes ≡ Err e) ↔ IsFirstError b bytes e
first b bytes e = go (lines_from b 1 most_vectors (lines_of bytes)) (all_read b bytes)
  where
    go : (m : Lines) → IsRead b (lines_of bytes) 0 (lines_of bytes) m → (steps_in b m ≡ Err e) ↔ IsFirstError b bytes e
    go (Ok ls) r = ((λ q. cc q), (λ f. absurd (r.right f.place e (omega arith) f.error)))
    go (Err x) r = (
      (λ q. let same : x ≡ e = cc q in record {
        place = r.place;
        within = r.inside;
        error = subst (λ y. IsError b (lines_of bytes) r.place y) same r.error;
        first = λ k y low h. r.first k y (omega arith) low h;
      }),
      (λ f. ap Err (same f (cases_lt r.place f.place) (cases_lt f.place r.place))),
    )
      where
        same : (f : IsFirstError b bytes e) → (r.place < f.place) ⊎ (f.place ≤ r.place) → (f.place < r.place) ⊎ (r.place ≤ f.place) → x ≡ e
        same f (inl less) other = absurd (f.first r.place x less r.error)
        same f (inr le) (inl less) = absurd (r.first f.place e (omega arith) less f.error)
        same f (inr le) (inr ge) =
            let at : r.place ≡ f.place = omega (arith, le, ge) in
            one_error b (lines_of bytes) f.place (judged_at b (lines_of bytes) f.place) x e (subst (λ k. IsError b (lines_of bytes) k x) at r.error) f.error
