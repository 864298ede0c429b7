-- Files that are checked, one by one.
use Rattle.std.proofs.Common.{◌≡◌, ⊎_elim, inl, inr, ℕ, zero, suc, ◌+◌, ◌≤◌, ◌<◌, Bool, true, false, ◌&&◌, cond, List, [], ◌∷◌, ◌++◌, append_assoc, append-nil, All, get_or, length, take, Option, String, Vec, Global, string_bytes, refl, sym, ◌∙◌, ap, subst, arith}
use Rattle.std.specs.List.{AllByRecursion, list_all}
use Rattle.std.proofs.lemmas.List.{map_push, take_more}
use Rattle.std.proofs.lemmas.List.Elements.{All-from_recursion}
use Rattle.std.proofs.lemmas.List.Folds.{list_all-append}
use Rattle.rdl_base.specs.declared.fault.Fault.{Fault}
use Rattle.rb_edge.specs.Count.{Rose}
use Rattle.rb_edge.specs.Shelf.{Files, IsLonger}
use Rattle.command_line.specs.Words.{texts}
use Rattle.rdl_verdict.specs.Verdict.{IsVerdict}
use Rattle.verdict_text.specs.Lines.{ok_line, verdict_lines}
use Rattle.replies.specs.declared.answer.Answer.{Answer}
use Rattle.replies.specs.declared.status.Status.{Status}
use Rattle.replies.specs.declared.status.Status.TheVariants.{Done, Refused}
use Rattle.replies.specs.Outcome.{AreRead, AreVerdicts, IsChecked, IsNotice, IsRead, StopsAt, all_failures, all_fine, has_none, source_limit}
use Rattle.replies.specs.Answer.{texts_of}
use Rattle.replies.specs.Checked.{AreLoaded, IsOneMore, bytes_of, limited}
use Rattle.replies.specs.Loaded.{Stops}
use Rattle.replies.specs.Text.{cannot_read, too_long}
use Rattle.replies.specs.declared.checking.AllLoaded.TheVariants.{Stopped}

-- one file more is read
pub read-more : (contents : Option Files) (words : List (String Global)) (k : ℕ) (d : String Global) (sources : List (List ℕ)) (bytes : List ℕ) → k < length words
    → AreRead contents (limited (texts (take k words))) sources → IsRead contents (string_bytes (get_or words k d)) source_limit bytes
    → AreRead contents (limited (texts (take (suc k) words))) (sources ++ bytes ∷ [])
read-more contents [] k d sources bytes l read one = absurd (omega (arith, l))
read-more contents (w ∷ ws) zero d [] bytes l read one = (one, tt)
read-more contents (w ∷ ws) zero d (s ∷ ss) bytes l read one = absurd read
read-more contents (w ∷ ws) (suc k) d [] bytes l read one = absurd read
read-more contents (w ∷ ws) (suc k) d (s ∷ ss) bytes l read one = (read.0, read-more contents ws k d ss bytes (omega (arith, l)) read.1 one)

pub read-next : (contents : Option Files) (words : List (String Global)) (k : ℕ) (d : String Global) (vs new : List (Vec ℕ Global)) (v : Vec ℕ Global) → k < length words → new ≡ vs ++ v ∷ []
    → AreRead contents (limited (texts (take k words))) (bytes_of vs) → IsRead contents (string_bytes (get_or words k d)) source_limit v.items
    → AreRead contents (limited (texts (take (k + 1) words))) (bytes_of new)
read-next contents words k d vs new v l pushed read one =
    let next : k + 1 ≡ suc k = omega arith in
    let bytes : bytes_of new ≡ bytes_of vs ++ v.items ∷ [] = ap bytes_of pushed ∙ map_push (λ (x : Vec ℕ Global). x.items) vs v in
    let P : ℕ → Type 0 = λ n. AreRead contents (limited (texts (take n words))) (bytes_of new) in
    let Q : List (List ℕ) → Type 0 = λ ss. AreRead contents (limited (texts (take (suc k) words))) ss in
    subst P (sym next) (subst Q (sym bytes) (read-more contents words k d (bytes_of vs) v.items l read one))

-- the file behind those that were read stops the run
stops-all : (contents : Option Files) (P : List ℕ → ℕ → Type 0) (words : List (String Global)) (k : ℕ) (d : String Global) (sources : List (List ℕ)) → k < length words
    → AreRead contents (limited (texts (take k words))) sources → P (string_bytes (get_or words k d)) source_limit → StopsAt contents P (limited (texts words))
stops-all contents P [] k d sources l read here = absurd (omega (arith, l))
stops-all contents P (w ∷ ws) zero d [] l read here = inl here
stops-all contents P (w ∷ ws) zero d (s ∷ ss) l read here = absurd read
stops-all contents P (w ∷ ws) (suc k) d [] l read here = absurd read
stops-all contents P (w ∷ ws) (suc k) d (s ∷ ss) l read here = inr (s, read.0, stops-all contents P ws k d ss (omega (arith, l)) read.1 here)

pub stopped : (contents : Option Files) (failed later : List ℕ → Type 0) (words : List (String Global)) (k : ℕ) (d : String Global) (sources : List (List ℕ)) (answer : Answer) → k < length words
    → AreRead contents (limited (texts (take k words))) sources → ((name : List ℕ) → later name → failed name)
    → Stops contents later (string_bytes (get_or words k d)) source_limit answer → AreLoaded contents failed (texts words) (Stopped answer)
stopped contents failed later words k d sources answer l read is stops = ⊎_elim
    (λ fault. inl (fault.0, stops-all contents (λ file limit. failed file × IsNotice (texts_of answer) (cannot_read file)) words k d sources l read (is (string_bytes (get_or words k d)) fault.1, fault.2)))
    (λ long. inr (long.0, stops-all contents (λ file limit. IsLonger contents file limit × IsNotice (texts_of answer) (too_long file limit)) words k d sources l read (long.1, long.2))) stops

-- a count that rose later rose
pub rose-later : (before middle after : ℕ) → before ≤ middle → Rose middle after → Rose before after
rose-later before middle after h rose = ⊎_elim (λ more. inl (omega (arith, h, more))) (λ end. inr end) rose

pub read-lengths : (contents : Option Files) (words : List (String Global)) (vs : List (Vec ℕ Global)) → AreRead contents (limited (texts words)) (bytes_of vs) → length words ≡ length vs
read-lengths contents [] [] read = refl
read-lengths contents [] (v ∷ vs) read = absurd read
read-lengths contents (w ∷ ws) [] read = absurd read
read-lengths contents (w ∷ ws) (v ∷ vs) read = let same = read-lengths contents ws vs read.1 in omega (arith, same)

read-within : (contents : Option Files) (words : List (String Global)) (vs : List (Vec ℕ Global)) → AreRead contents (limited (texts words)) (bytes_of vs) → AllByRecursion (λ v. length v.items ≤ source_limit) vs
read-within contents [] [] read = tt
read-within contents [] (v ∷ vs) read = absurd read
read-within contents (w ∷ ws) [] read = absurd read
read-within contents (w ∷ ws) (v ∷ vs) read = (read.0.within, read-within contents ws vs read.1)

pub read-short : (contents : Option Files) (words : List (String Global)) (vs : List (Vec ℕ Global)) → AreRead contents (limited (texts words)) (bytes_of vs) → All (λ (v : Vec ℕ Global). length v.items ≤ source_limit) vs
read-short contents words vs read = All-from_recursion (λ (v : Vec ℕ Global). length v.items ≤ source_limit) vs (read-within contents words vs read)

verdicts-push : (top : Option (List ℕ)) (ss : List (List ℕ)) (ls : List (List Fault)) (s : List ℕ) (l : List Fault) → AreVerdicts top ss ls → IsVerdict top s l → AreVerdicts top (ss ++ s ∷ []) (ls ++ l ∷ [])
verdicts-push top [] [] s l all one = (one, tt)
verdicts-push top [] (y ∷ ls) s l all one = absurd all
verdicts-push top (x ∷ ss) [] s l all one = absurd all
verdicts-push top (x ∷ ss) (y ∷ ls) s l all one = (all.0, verdicts-push top ss ls s l all.1 one)

failures-push : (top : Option (List ℕ)) (fs ss : List (List ℕ)) (ls : List (List Fault)) (f s : List ℕ) (l : List Fault) → length fs ≡ length ss → AreVerdicts top ss ls
    → all_failures (fs ++ f ∷ []) (ss ++ s ∷ []) (ls ++ l ∷ []) ≡ all_failures fs ss ls ++ verdict_lines f s l
failures-push top [] [] [] f s l same all = append-nil (verdict_lines f s l)
failures-push top [] [] (y ∷ ls) f s l same all = absurd all
failures-push top [] (x ∷ ss) ls f s l same all = absurd (omega (arith, same))
failures-push top (g ∷ fs) [] ls f s l same all = absurd (omega (arith, same))
failures-push top (g ∷ fs) (x ∷ ss) [] f s l same all = absurd all
failures-push top (g ∷ fs) (x ∷ ss) (y ∷ ls) f s l same all =
    let rest : length fs ≡ length ss = omega (arith, same) in
    ap (λ xs. verdict_lines g x y ++ xs) (failures-push top fs ss ls f s l rest all.1) ∙ sym (append_assoc (verdict_lines g x y) (all_failures fs ss ls) (verdict_lines f s l))

fine-push : (top : Option (List ℕ)) (fs ss : List (List ℕ)) (ls : List (List Fault)) (f : List ℕ) (l : List Fault) → length fs ≡ length ss → AreVerdicts top ss ls
    → all_fine (fs ++ f ∷ []) (ls ++ l ∷ []) ≡ all_fine fs ls ++ cond (has_none l) (ok_line f) []
fine-push top [] [] [] f l same all = append-nil (cond (has_none l) (ok_line f) [])
fine-push top [] [] (y ∷ ls) f l same all = absurd all
fine-push top [] (x ∷ ss) ls f l same all = absurd (omega (arith, same))
fine-push top (g ∷ fs) [] ls f l same all = absurd (omega (arith, same))
fine-push top (g ∷ fs) (x ∷ ss) [] f l same all = absurd all
fine-push top (g ∷ fs) (x ∷ ss) (y ∷ ls) f l same all =
    let rest : length fs ≡ length ss = omega (arith, same) in
    ap (λ xs. cond (has_none y) (ok_line g) [] ++ xs) (fine-push top fs ss ls f l rest all.1) ∙ sym (append_assoc (cond (has_none y) (ok_line g) []) (all_fine fs ls) (cond (has_none l) (ok_line f) []))

ends-push : (a b : Bool) → cond b (cond a Done Refused) Refused ≡ cond (a && (b && true)) Done Refused
ends-push true true = refl
ends-push true false = refl
ends-push false true = refl
ends-push false false = refl

-- one source more
pub checked-push : (top : Option (List ℕ)) (fs ss : List (List ℕ)) (f s : List ℕ) (old new : Answer) → length fs ≡ length ss
    → IsChecked top fs ss old.status (texts_of old) → IsOneMore top f s old new → IsChecked top (fs ++ f ∷ []) (ss ++ s ∷ []) new.status (texts_of new)
checked-push top fs ss f s old new same all one = record {
  lists = all.lists ++ one.list ∷ [];
  verdicts = verdicts-push top ss all.lists s one.list all.verdicts one.verdict;
  told = one.told ∙ ap (λ xs. xs ++ verdict_lines f s one.list) all.told ∙ sym (failures-push top fs ss all.lists f s one.list same all.verdicts);
  fine = one.fine ∙ ap (λ xs. xs ++ cond (has_none one.list) (ok_line f) []) all.fine ∙ sym (fine-push top fs ss all.lists f one.list same all.verdicts);
  ends = one.ends ∙ ap (λ (x : Status). cond (has_none one.list) x Refused) all.ends ∙ ends-push (list_all has_none all.lists) (has_none one.list)
      ∙ ap (λ t. cond t Done Refused) (sym (list_all-append has_none all.lists (one.list ∷ [])));
}

same_count : (words : List (String Global)) (vs : List (Vec ℕ Global)) (k : ℕ) → length words ≡ length vs → length (texts (take k words)) ≡ length (bytes_of (take k vs))
same_count [] [] zero same = refl
same_count [] [] (suc k) same = refl
same_count [] (v ∷ vs) k same = absurd (omega (arith, same))
same_count (w ∷ ws) [] k same = absurd (omega (arith, same))
same_count (w ∷ ws) (v ∷ vs) zero same = refl
same_count (w ∷ ws) (v ∷ vs) (suc k) same =
    let fewer : length ws ≡ length vs = omega (arith, same) in
    let rest = same_count ws vs k fewer in omega (arith, rest)

pub checked-more : (top : Option (List ℕ)) (words : List (String Global)) (vs : List (Vec ℕ Global)) (k : ℕ) (d : String Global) (e : Vec ℕ Global) (old new : Answer) → length words ≡ length vs → k < length words
    → IsChecked top (texts (take k words)) (bytes_of (take k vs)) old.status (texts_of old) → IsOneMore top (string_bytes (get_or words k d)) (get_or vs k e).items old new
    → IsChecked top (texts (take (k + 1) words)) (bytes_of (take (k + 1) vs)) new.status (texts_of new)
checked-more top words vs k d e old new same l all one =
    let within : k < length vs = omega (arith, same, l) in
    let files : texts (take (k + 1) words) ≡ texts (take k words) ++ string_bytes (get_or words k d) ∷ [] = ap texts (take_more words k d l) ∙ map_push string_bytes (take k words) (get_or words k d) in
    let sources : bytes_of (take (k + 1) vs) ≡ bytes_of (take k vs) ++ (get_or vs k e).items ∷ [] = ap bytes_of (take_more vs k e within) ∙ map_push (λ (v : Vec ℕ Global). v.items) (take k vs) (get_or vs k e) in
    let P : List (List ℕ) → Type 0 = λ fs. IsChecked top fs (bytes_of (take (k + 1) vs)) new.status (texts_of new) in
    let Q : List (List ℕ) → Type 0 = λ ss. IsChecked top (texts (take k words) ++ string_bytes (get_or words k d) ∷ []) ss new.status (texts_of new) in
    subst P (sym files) (subst Q (sym sources) (checked-push top (texts (take k words)) (bytes_of (take k vs)) (string_bytes (get_or words k d)) (get_or vs k e).items old new (same_count words vs k same) all one))
