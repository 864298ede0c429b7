-- Entries of an enumeration one by one.
use Rattle.std.proofs.Common.{◌≡◌, ◌∙◌, ℕ, ◌+◌, ◌<◌, ◌==◌, Bool, true, false, ◌||◌, ◌&&◌, not, cond, if◌then◌else◌, arith, bytes_eq, List, [], ◌∷◌, ◌++◌, length, get_or, take, map, flat_map, find, Option, None, Some, is_some, option_map, refl, sym, ap, subst, append-nil}
use Rattle.std.specs.BTreeMap.{is_at}
use Rattle.std.specs.BTreeSet.{insert_key}
use Rattle.std.specs.List.{list_any}
use Rattle.std.specs.Ordering.{MatchOrdering, is_eq, match_ordering, nat_cmp}
use Rattle.std.specs.declared.cmp.Ordering.{Ordering}
use Rattle.std.specs.declared.cmp.Ordering.TheVariants.{Less, Equal, Greater}
use Rattle.std.proofs.lemmas.Cmp.{ranked}
use Rattle.std.specs.Option.{option_or}
use Rattle.std.proofs.lemmas.List.{map-append, take_more}
use Rattle.std.proofs.lemmas.List.Folds.{list_any-append}
use Rattle.std.specs.Cmp.Lexicographic.{bytes_decides}
use Rattle.rdl_base.specs.declared.fault.Fault.{Fault}
use Rattle.rdl_base.specs.declared.rule.Rule.TheVariants as rules
use Rattle.rdl_tree.specs.declared.expr.Name.{Name}
use Rattle.rdl_tree.specs.declared.item.Entry.{Entry}
use Rattle.rdl_tree.specs.declared.value.EntryValue.{EntryValue}
use Rattle.rdl_values.specs.Bodies.{standing}
use Rattle.rdl_values.specs.Enums.{judged, judged_from}
use Rattle.rdl_values.specs.Faults.{at_, when}
use Rattle.rdl_values.specs.Phase3.{clashes}
use Rattle.rdl_values.specs.Seen.{entry_of}
use Rattle.rdl_values.specs.Values.{Around, EnumOf, entry_named}
use Rattle.rdl_values.specs.Firsts.{HasNames, place_of}
use Rattle.rdl_failures.specs.Noted.{IsNoted}
use Rattle.rdl_values.specs.declared.firsts.Firsts.{Firsts}
use Rattle.rdl_values.proofs.Named.{IsPut, any-named, names_more}
use Rattle.rdl_failures.proofs.Noting.{each_noted, standing-push}
use Rattle.rdl_scopes.specs.Entries.{IsTableOf, by_text, clash_fails, pair}

-- The entries so far, and what the others give behind them.
pub record IsJudgedTo (around : Around) (all : List Entry) (valued : List EntryValue) (before : Option ℕ) (rest : List Entry) : Type 0 where
  pub entries : (judged around all).entries ≡ map pair valued ++ (judged_from around before rest).entries
  pub failure : (judged around all).failure ≡ (judged_from around before rest).failure

pub judged_none : (around : Around) (all : List Entry) → IsJudgedTo around all [] None all
judged_none around all = record { entries = refl; failure = refl }

-- Names and numbers that stand before.

-- these are the numbers of the entries
pub record HasNumbers (keys : List ℕ) (entries : List (Name × ℕ)) : Type 0 where
  pub at : (k : ℕ) → list_any (is_at (nat_cmp k)) keys ≡ list_any (λ e. e.1 == k) entries

is_at-eq : (k n : ℕ) → is_at (nat_cmp k) n ≡ (n == k)
is_at-eq k n = go (nat_cmp k n) (ranked k n (nat_cmp k n) refl)
  where
    go : (o : Ordering) → MatchOrdering o (k < n) (k ≡ n) (n < k) → is_eq o ≡ (n == k)
    go Less l = sym (grind (arith, l))
    go Equal e = sym (grind (arith, e))
    go Greater l = sym (grind (arith, l))

-- a key more, put where its order asks
any_inserted : (f : ℕ → Bool) (keys : List ℕ) (n : ℕ) → list_any f (insert_key nat_cmp keys n) ≡ (list_any f keys || (f n || false))
any_inserted f [] n = refl
any_inserted f (x ∷ xs) n = go (nat_cmp n x) (ranked n x (nat_cmp n x) refl) (any_inserted f xs n)
  where
    before : (a b c : Bool) → (a || (b || c)) ≡ ((b || c) || (a || false))
    before true true c = refl
    before true false true = refl
    before true false false = refl
    before false true c = refl
    before false false true = refl
    before false false false = refl

    same : (b c : Bool) → (b || c) ≡ ((b || c) || (b || false))
    same true c = refl
    same false true = refl
    same false false = refl

    behind : (b c d : Bool) → (b || (c || d)) ≡ ((b || c) || d)
    behind true c d = refl
    behind false c d = refl

    go : (o : Ordering) → MatchOrdering o (n < x) (n ≡ x) (x < n) → list_any f (insert_key nat_cmp xs n) ≡ (list_any f xs || (f n || false)) → list_any f (match_ordering o (n ∷ x ∷ xs) (x ∷ xs) (x ∷ insert_key nat_cmp xs n)) ≡ ((f x || list_any f xs) || (f n || false))
    go Less l rest = before (f n) (f x) (list_any f xs)
    go Equal e rest = same (f x) (list_any f xs) ∙ ap (λ m. (f x || list_any f xs) || (f m || false)) (sym e)
    go Greater l rest = ap (λ b. f x || b) rest ∙ behind (f x) (list_any f xs) (f n || false)

numbers_more : (keys : List ℕ) (xs : List (Name × ℕ)) (x : Name × ℕ) → HasNumbers keys xs → HasNumbers (insert_key nat_cmp keys x.1) (xs ++ (x ∷ []))
numbers_more keys xs x h = record {
  at = λ k. any_inserted (is_at (nat_cmp k)) keys x.1 ∙ ap (λ b. b || (is_at (nat_cmp k) x.1 || false)) (h.at k) ∙ ap (λ b. list_any (λ e. e.1 == k) xs || (b || false)) (is_at-eq k x.1) ∙ sym (list_any-append (λ e. e.1 == k) xs (x ∷ []));
}

either : (f g : Name × ℕ → Bool) (xs : List (Name × ℕ)) → (list_any f xs || list_any g xs) ≡ list_any (λ e. f e || g e) xs
either f g [] = refl
either f g (x ∷ xs) = shuffled (f x) (list_any f xs) (g x) (list_any g xs) ∙ ap (λ c. (f x || g x) || c) (either f g xs)
  where
    shuffled : (a b c d : Bool) → ((a || b) || (c || d)) ≡ ((a || c) || (b || d))
    shuffled true b c d = refl
    shuffled false true true d = refl
    shuffled false true false d = refl
    shuffled false false c d = refl

pair_more : (es : List EntryValue) (i : ℕ) (d : EntryValue) → i < length es → map pair (take (i + 1) es) ≡ map pair (take i es) ++ (pair (get_or es i d) ∷ [])
pair_more es i d l = ap (map pair) (take_more es i d l) ∙ map-append pair (take i es) (get_or es i d ∷ [])

-- E14 at an entry, where one of those before it has its name or its number
abbrev pub clash : List (Name × ℕ) × (Name × ℕ) → List Fault
clash e = when (clashes e.0 e.1) (at_ rules.E14 e.1.0.place)

clash_push : (xs : List (Name × ℕ)) (x : Name × ℕ) (a b : Bool) (s t u : List Fault) → IsNoted (clash_fails xs) a s t → IsNoted (clash (xs, x)) b t u → IsNoted (clash_fails (xs ++ (x ∷ []))) (a && b) s u
clash_push xs x a b s t u h k =
    subst (λ ys. IsNoted (flat_map clash ys) (a && b) s u) (sym (standing-push xs x)) (each_noted clash (standing xs) ((xs, x) ∷ []) a b s t u h (subst (λ fs. IsNoted fs b t u) (sym (append-nil (clash (xs, x)))) k))

pub names_step : (es : List EntryValue) (i : ℕ) (d : EntryValue) (old new : Firsts) → i < length es → HasNames old (map (λ e. e.0.text.now) (map pair (take i es))) → IsPut (get_or es i d).name.text.now i old new
    → HasNames new (map (λ e. e.0.text.now) (map pair (take (i + 1) es)))
names_step es i d old new l h put =
    let x = get_or es i d in
    let last = ap (map (λ e. e.0.text.now)) (pair_more es i d l) ∙ map-append (λ e. e.0.text.now) (map pair (take i es)) (pair x ∷ []) in
    subst (HasNames new) (sym last) (names_more old new (map (λ e. e.0.text.now) (map pair (take i es))) x.name.text.now i h put)

pub numbers_step : (es : List EntryValue) (i : ℕ) (d : EntryValue) (keys after : List ℕ) → i < length es → HasNumbers keys (map pair (take i es))
    → after ≡ insert_key nat_cmp keys (get_or es i d).value → HasNumbers after (map pair (take (i + 1) es))
numbers_step es i d keys after l h e = subst (λ ks. HasNumbers ks (map pair (take (i + 1) es))) (sym e) (subst (HasNumbers _) (sym (pair_more es i d l)) (numbers_more keys (map pair (take i es)) (pair (get_or es i d)) h))

pub clash_step : (es : List EntryValue) (i : ℕ) (d : EntryValue) (names : Firsts) (keys : List ℕ) (again fresh a b : Bool) (s t u : List Fault) → i < length es → HasNames names (map (λ e. e.0.text.now) (map pair (take i es)))
    → HasNumbers keys (map pair (take i es)) → again ≡ is_some (place_of names (get_or es i d).name.text.now) → fresh ≡ not (list_any (is_at (nat_cmp (get_or es i d).value)) keys)
    → IsNoted (clash_fails (map pair (take i es))) a s t → IsNoted (when (again || not fresh) (at_ rules.E14 (get_or es i d).name.place)) b t u → IsNoted (clash_fails (map pair (take (i + 1) es))) (a && b) s u
clash_step es i d names keys again fresh a b s t u l h k e f before here =
    let x = get_or es i d in
    let xs = map pair (take i es) in
    let named : again ≡ list_any (λ e. bytes_eq e.0.text.now x.name.text.now) xs = e ∙ h.at x.name.text.now ∙ any-named (λ e. e.0.text.now) x.name.text.now xs in
    let numbered : not fresh ≡ list_any (λ e. e.1 == x.value) xs = ap not f ∙ twice-not (list_any (is_at (nat_cmp x.value)) keys) ∙ k.at x.value in
    let stands : (again || not fresh) ≡ clashes xs (pair x) = ap (λ c. c || not fresh) named ∙ ap (λ c. list_any (λ e. bytes_eq e.0.text.now x.name.text.now) xs || c) numbered ∙ either (λ e. bytes_eq e.0.text.now x.name.text.now) (λ e. e.1 == x.value) xs in
    subst (λ ys. IsNoted (clash_fails ys) (a && b) s u) (sym (pair_more es i d l)) (clash_push xs (pair x) a b s t u before (subst (λ c. IsNoted (when c (at_ rules.E14 x.name.place)) b t u) stands here))
  where
    twice-not : (c : Bool) → not (not c) ≡ c
    twice-not true = refl
    twice-not false = refl

-- Tables of entries.

named-append : (n : List ℕ) (xs ys : List (List ℕ × ℕ)) → entry_named n (xs ++ ys) ≡ option_or (entry_named n xs) (entry_named n ys)
named-append n [] ys = refl
named-append n (x ∷ xs) ys = go (bytes_eq x.0 n) (named-append n xs ys)
  where
    go : (b : Bool) → entry_named n (xs ++ ys) ≡ option_or (entry_named n xs) (entry_named n ys)
        → option_map (λ x. x.1) (if b then Some x else find (λ x. bytes_eq x.0 n) (xs ++ ys)) ≡ option_or (option_map (λ x. x.1) (if b then Some x else find (λ x. bytes_eq x.0 n) xs)) (entry_named n ys)
    go true h = refl
    go false h = h

pub table_none : (name : Name) (e : EnumOf) → e ≡ record { name = name.text.now; place = name.place.0; entries = [] } → IsTableOf name [] e
table_none name e h = record { named = ap (λ x. x.name) h; place = ap (λ x. x.place) h; numbers = λ n. ap (λ x. entry_named n x.entries) h }

-- one more entry, where no entry has its name
entry_more : (m : List ℕ) (k : ℕ) (es : List (List ℕ × ℕ)) (n : List ℕ) → entry_named n (cond (is_some (entry_named m es)) es (es ++ ((m, k) ∷ []))) ≡ option_or (entry_named n es) (entry_named n ((m, k) ∷ []))
entry_more m k es n = go (entry_named m es) refl
  where
    none-or : (o : Option ℕ) → o ≡ option_or o None
    none-or None = refl
    none-or (Some j) = refl

    some-or : (o : Option ℕ) (j : ℕ) → o ≡ Some j → o ≡ option_or o (Some k)
    some-or None j q = cc
    some-or (Some i) j q = refl

    kept : (j : ℕ) (b : Bool) → bytes_eq m n ≡ b → entry_named m es ≡ Some j → entry_named n es ≡ option_or (entry_named n es) (option_map (λ (x : List ℕ × ℕ). x.1) (if b then Some (m, k) else None))
    kept j true e q = some-or (entry_named n es) j (ap (λ o. entry_named o es) (sym ((bytes_decides m n).0 e)) ∙ q)
    kept j false e q = none-or (entry_named n es)

    go : (o : Option ℕ) → entry_named m es ≡ o → entry_named n (cond (is_some o) es (es ++ ((m, k) ∷ []))) ≡ option_or (entry_named n es) (entry_named n ((m, k) ∷ []))
    go None e = named-append n es ((m, k) ∷ [])
    go (Some j) e = kept j (bytes_eq m n) refl e

pub table_step : (name : Name) (es : List EntryValue) (i : ℕ) (d : EntryValue) (old new : EnumOf) → i < length es → IsTableOf name (map pair (take i es)) old → new.name ≡ old.name → new.place ≡ old.place
    → new.entries ≡ cond (is_some (entry_named (get_or es i d).name.text.now old.entries)) old.entries (old.entries ++ (((get_or es i d).name.text.now, (get_or es i d).value) ∷ [])) → IsTableOf name (map pair (take (i + 1) es)) new
table_step name es i d old new l h named place added =
    let x = get_or es i d in
    let last : by_text (map pair (take (i + 1) es)) ≡ by_text (map pair (take i es)) ++ ((x.name.text.now, x.value) ∷ []) = ap by_text (pair_more es i d l) ∙ map-append (λ e. (e.0.text.now, e.1)) (map pair (take i es)) (pair x ∷ []) in
    record {
      named = named ∙ h.named;
      place = place ∙ h.place;
      numbers = λ n. ap (entry_named n) added ∙ entry_more x.name.text.now x.value old.entries n ∙ ap (λ o. option_or o (entry_named n ((x.name.text.now, x.value) ∷ []))) (h.numbers n)
          ∙ sym (named-append n (by_text (map pair (take i es))) ((x.name.text.now, x.value) ∷ [])) ∙ ap (entry_named n) (sym last);
    }

-- entries that are listed
pub listed_by_text : (es : List EntryValue) → map entry_of es ≡ by_text (map pair es)
listed_by_text [] = refl
listed_by_text (e ∷ es) = ap (λ xs. entry_of e ∷ xs) (listed_by_text es)
