-- The tables of numbers of fields, one field after the other.
use Rattle.std.proofs.Common.{◌≡◌, ◌≢◌, ◌∙◌, ℕ, zero, suc, ◌+◌, ◌<◌, ◌==◌, Bool, true, false, cond, Option, None, Some, List, [], ◌∷◌, ◌++◌, ◌⊎◌, inl, inr, append-nil, filter, get_or, length, map, replicate, slice_set, take, refl, sym, ap, arith}
use Rattle.std.specs.List.{enumerate_from, range_with_len}
use Rattle.std.specs.Option.{option_map_or}
use Rattle.std.proofs.lemmas.List.{get_or-set_other, get_or-set_same, length-set, length-take, map-append, take_more}
use Rattle.std.proofs.lemmas.List.FromFn.{fill_by_all, get_or-map-range_with_len, length-map-range_with_len}
use Rattle.plain_lemmas.proofs.Lists.{filter-append, map-alike}
use Rattle.plain_lemmas.proofs.Numbers.{same_or_other}
use Rattle.rb_model.proofs.PortLists.{enumerate_from-push}
use Rattle.rb_model.specs.declared.block.Field.{Field}
use Rattle.html_manual.specs.declared.tables.Tables.{Tables}
use Rattle.html_manual.specs.Filing.{added, field_added, filed_among, tables_among}
use Rattle.html_manual.specs.Interrupts.{counts_for, filed_at, is_for, uses_halt, uses_intr}

none_from : (place : Field → Option ℕ) (a n : ℕ) → replicate n [] ≡ map (filed_at place []) (range_with_len a n)
none_from place a zero = refl
none_from place a (suc n) = ap (λ l. [] ∷ l) (none_from place (a + 1) n)

none_filed : (place : Field → Option ℕ) (n : ℕ) → replicate n [] ≡ filed_among place [] n
none_filed place n = none_from place 0 n

module _ (place : Field → Option ℕ) where
  -- one field more
  at_more : (fs : List Field) (k : ℕ) (f : Field) (r : ℕ) → 0 + length fs ≡ k → filed_at place (fs ++ f ∷ []) r ≡ filed_at place fs r ++ cond (is_for place r (k, f)) (k ∷ []) []
  at_more fs k f r e =
      ap (λ es. map (λ (g : ℕ × Field). g.0) (filter (is_for place r) es)) (enumerate_from-push 0 k fs f e)
      ∙ ap (map (λ (g : ℕ × Field). g.0)) (filter-append (is_for place r) (enumerate_from 0 fs) ((k, f) ∷ []))
      ∙ map-append (λ (g : ℕ × Field). g.0) (filter (is_for place r) (enumerate_from 0 fs)) (filter (is_for place r) ((k, f) ∷ []))
      ∙ ap (λ ys. filed_at place fs r ++ ys) (one (is_for place r (k, f)))
    where
      one : (c : Bool) → map (λ (g : ℕ × Field). g.0) (cond c ((k, f) ∷ []) []) ≡ cond c (k ∷ []) []
      one true = refl
      one false = refl

  at_none : (fs : List Field) (k : ℕ) (f : Field) (r : ℕ) → 0 + length fs ≡ k → place f ≡ None → filed_at place fs r ≡ filed_at place (fs ++ f ∷ []) r
  at_none fs k f r e p = sym (at_more fs k f r e ∙ ap (λ o. filed_at place fs r ++ cond (option_map_or (λ j. j == r) o false) (k ∷ []) []) p ∙ append-nil (filed_at place fs r))

  at_some : (fs : List Field) (k : ℕ) (f : Field) (r q : ℕ) (c : Bool) → 0 + length fs ≡ k → place f ≡ Some q → (q == r) ≡ c → filed_at place (fs ++ f ∷ []) r ≡ filed_at place fs r ++ cond c (k ∷ []) []
  at_some fs k f r q c e p t = at_more fs k f r e ∙ ap (λ o. filed_at place fs r ++ cond (option_map_or (λ j. j == r) o false) (k ∷ []) []) p ∙ ap (λ d. filed_at place fs r ++ cond d (k ∷ []) []) t

  added_some : (fs : List Field) (n k : ℕ) (f : Field) (q : ℕ) → 0 + length fs ≡ k → place f ≡ Some q → added (filed_among place fs n) (Some q) k ≡ filed_among place (fs ++ f ∷ []) n
  added_some fs n k f q e p = fill_by_all (filed_at place (fs ++ f ∷ [])) (slice_set lists q new) n [] (length-set lists q new ∙ length-map-range_with_len (filed_at place fs) 0 n) (λ r low. each r low (same_or_other q r))
    where
      lists : List (List ℕ)
      lists = filed_among place fs n

      new : List ℕ
      new = get_or lists q [] ++ k ∷ []

      each : (r : ℕ) → r < n → ((q ≡ r) × ((q == r) ≡ true)) ⊎ ((q ≢ r) × ((q == r) ≡ false)) → get_or (slice_set lists q new) r [] ≡ filed_at place (fs ++ f ∷ []) r
      each r low (inl s) =
          ap (λ j. get_or (slice_set lists q new) j []) (sym s.0)
          ∙ get_or-set_same lists q new [] (omega (arith, low, s.0, length-map-range_with_len (filed_at place fs) 0 n))
          ∙ ap (λ l. l ++ k ∷ []) (ap (λ j. get_or lists j []) s.0 ∙ get_or-map-range_with_len (filed_at place fs) 0 n r r [] low (omega arith))
          ∙ sym (at_some fs k f r q true e p s.1)
      each r low (inr o) =
          get_or-set_other lists q r new [] (λ h. o.0 (sym h))
          ∙ get_or-map-range_with_len (filed_at place fs) 0 n r r [] low (omega arith)
          ∙ sym (at_some fs k f r q false e p o.1 ∙ append-nil (filed_at place fs r))

  added_by : (o : Option ℕ) (fs : List Field) (n k : ℕ) (f : Field) → 0 + length fs ≡ k → place f ≡ o → added (filed_among place fs n) o k ≡ filed_among place (fs ++ f ∷ []) n
  added_by None fs n k f e p = map-alike (filed_at place fs) (filed_at place (fs ++ f ∷ [])) (range_with_len 0 n) (λ r _. at_none fs k f r e p)
  added_by (Some q) fs n k f e p = added_some fs n k f q e p

  added_more : (fs : List Field) (n k : ℕ) (f : Field) → 0 + length fs ≡ k → added (filed_among place fs n) (place f) k ≡ filed_among place (fs ++ f ∷ []) n
  added_more fs n k f e = added_by (place f) fs n k f e refl

tables_more : (fs : List Field) (n k : ℕ) (f : Field) → 0 + length fs ≡ k → field_added (tables_among fs n) k f ≡ tables_among (fs ++ f ∷ []) n
tables_more fs n k f e = λ i. record { counted = added_more counts_for fs n k f e i; intr_users = added_more uses_intr fs n k f e i; halt_users = added_more uses_halt fs n k f e i }

-- a loop's step
pub next_tables : (fields items : List Field) (i n k : ℕ) (f : Field) (t u : Tables) → items ≡ fields → i < length items → f ≡ get_or items i f → t ≡ tables_among (take i fields) n → k ≡ i → u ≡ field_added t k f
    → u ≡ tables_among (take (i + 1) fields) n
next_tables fields items i n k f t u whole low at before same after =
    let long : 0 + length (take i items) ≡ k = omega (arith, length-take i items, low, same) in
    after ∙ ap (λ s. field_added s k f) (before ∙ ap (λ fs. tables_among (take i fs) n) (sym whole)) ∙ tables_more (take i items) n k f long
    ∙ ap (λ fs. tables_among fs n) (sym (take_more items i f low ∙ ap (λ y. take i items ++ y ∷ []) (sym at)))
    ∙ ap (λ fs. tables_among (take (i + 1) fs) n) whole

pub no_tables : (n : ℕ) (a b c : List (List ℕ)) → a ≡ replicate n [] → b ≡ replicate n [] → c ≡ replicate n [] → record { counted = a; intr_users = b; halt_users = c } ≡ tables_among [] n
no_tables n a b c p q r = λ i. record { counted = (p ∙ none_filed counts_for n) i; intr_users = (q ∙ none_filed uses_intr n) i; halt_users = (r ∙ none_filed uses_halt n) i }
