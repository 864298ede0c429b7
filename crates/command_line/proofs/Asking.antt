-- The command that is found is the one that the words ask for.
use Rattle.std.proofs.Common.{◌≡◌, ◌∙◌, ◌⊎◌, inl, inr, ℕ, zero, suc, ◌+◌, ◌<◌, ◌≤◌, ◌==◌, Bool, true, false, not, ◌&&◌, cond, bytes_eq, nat_le, List, [], ◌∷◌, ◌++◌, append_assoc, lit<, lit≤, Option, None, Some, String, decimal, length, codes, refl, sym, ap, subst, arith}
use Rattle.std.specs.List.{AllByRecursion, list_all}
use Rattle.std.specs.String.{string_bytes}
use Rattle.std.specs.Global.{Global}
use Rattle.std.proofs.lemmas.Bool.{eqb-true, le-leb, leb-true}
use Rattle.std.proofs.lemmas.Fmt.{decimal_digit}
use Rattle.std.proofs.lemmas.List.{length-map}
use Rattle.std.proofs.lemmas.List.Elements.{All-from_recursion, recursion_from_All}
use Rattle.std.proofs.lemmas.List.Folds.{list_all-map}
use Rattle.plain_lemmas.proofs.Bools.{and-both}
use Rattle.plain_lemmas.proofs.Lists.{bytes_eq-same as same-text}
use Rattle.rdl_tree.specs.Words.{is_word}
use Rattle.command_line.specs.Words.{AreFileWords, Asks, AsksNothing, Command, IsCommand, IsFileWord, IsTop, IsWaits, check, compile, drive_of, gen_of, header_of, manual_of, axi_of, map_of, pins_of, run_of, sim, vcd, texts, top_words, waits_words, words_of}
use Rattle.command_line.specs.Found.{Topped, Waited, are_files, compiled, count_in, counted, driven, driven_by, file_pair, found_in, is_file, named, one_count, one_dump, one_file, ran, some_files, some_gen, topped, two_files, waited}
use Rattle.command_line.proofs.Counting.{count-found, found-count}

-- Words that name files.

pub are_of : (words : List (String Global)) → 0 < length words → length words ≤ 64 → are_files (texts words) ≡ list_all (λ word. is_file (string_bytes word)) words
are_of words some few =
    let many : length (texts words) ≡ length words = length-map words (λ word. string_bytes word) in
    let a : nat_le 1 (length (texts words)) ≡ true = le-leb 1 (length (texts words)) (omega (arith, some, many)) in
    let b : nat_le (length (texts words)) 64 ≡ true = le-leb (length (texts words)) 64 (omega (arith, few, many)) in
    ap (λ t. (t && nat_le (length (texts words)) 64) && list_all is_file (texts words)) a ∙ ap (λ t. t && list_all is_file (texts words)) b ∙ list_all-map is_file (λ word. string_bytes word) words

pub some_words : (words : List (String Global)) → (length words == 0) ≡ false → 0 < length words
some_words [] e = cc e
some_words (w ∷ ws) e = omega arith

file-yes : (w : List ℕ) → IsFileWord w → is_file w ≡ true
file-yes [] f = let s = f.some in absurd (omega (arith, s))
file-yes (b ∷ bs) f = go (b == 45) refl
  where
    go : (t : Bool) → (b == 45) ≡ t → not t ≡ true
    go true e = absurd (f.no_dash (eqb-true b 45 e))
    go false e = refl

file-word : (w : List ℕ) → is_file w ≡ true → IsFileWord w
file-word [] e = cc e
file-word (b ∷ bs) e = record { some = omega arith; no_dash = λ q. differs b q e }
  where
    differs : (n : ℕ) → n ≡ 45 → not (n == 45) ≡ true → ⊥
    differs n q r = let bad : false ≡ true = sym (ap (λ m. not (m == 45)) q) ∙ r in cc bad

files-yes : (ws : List (List ℕ)) → AllByRecursion IsFileWord ws → list_all is_file ws ≡ true
files-yes [] h = refl
files-yes (w ∷ ws) h = ap (λ t. t && list_all is_file ws) (file-yes w h.0) ∙ files-yes ws h.1

file-words : (ws : List (List ℕ)) → list_all is_file ws ≡ true → AllByRecursion IsFileWord ws
file-words [] e = tt
file-words (w ∷ ws) e = let p = and-both (is_file w) (list_all is_file ws) e in (file-word w p.0, file-words ws p.1)

are-yes : (ws : List (List ℕ)) → AreFileWords ws → are_files ws ≡ true
are-yes ws h =
    let some = h.some in
    ap (λ t. (t && nat_le (length ws) 64) && list_all is_file ws) (le-leb 1 (length ws) (omega (arith, some))) ∙ ap (λ t. t && list_all is_file ws) (le-leb (length ws) 64 h.few) ∙ files-yes ws (recursion_from_All IsFileWord ws h.each)

are-words : (ws : List (List ℕ)) → are_files ws ≡ true → AreFileWords ws
are-words ws e =
    let p = and-both (nat_le 1 (length ws) && nat_le (length ws) 64) (list_all is_file ws) e in
    let q = and-both (nat_le 1 (length ws)) (nat_le (length ws) 64) p.0 in
    let some = leb-true 1 (length ws) q.0 in
    record { some = omega (arith, some); few = leb-true (length ws) 64 q.1; each = All-from_recursion IsFileWord ws (file-words ws p.1) }

-- The name of the top.

-- a word that names a file names no top
no-flag : (w : List ℕ) → is_file w ≡ true → bytes_eq w (codes "--top") ≡ false
no-flag [] e = refl
no-flag (b ∷ bs) e = go (b == 45) refl
  where
    go : (t : Bool) → (b == 45) ≡ t → bytes_eq (b ∷ bs) (codes "--top") ≡ false
    go true q = let bad : false ≡ true = sym (ap not q) ∙ e in cc bad
    go false q = ap (λ t. t && bytes_eq bs (codes "-top")) q

-- nor does it give wait states
no-waits : (w : List ℕ) → is_file w ≡ true → bytes_eq w (codes "--waits") ≡ false
no-waits [] e = refl
no-waits (b ∷ bs) e = go (b == 45) refl
  where
    go : (t : Bool) → (b == 45) ≡ t → bytes_eq (b ∷ bs) (codes "--waits") ≡ false
    go true q = let bad : false ≡ true = sym (ap not q) ∙ e in cc bad
    go false q = ap (λ t. t && bytes_eq bs (codes "-waits")) q

-- the first of some words names a file, if there is one
abbrev Begins : List (List ℕ) → Type 0
Begins [] = Unit {0}
Begins (w ∷ ws) = is_file w ≡ true

top-found : (top : Option (List ℕ)) (ws : List (List ℕ)) → IsTop top → Begins ws → topped (top_words top ++ ws) ≡ Some (record { top = top; rest = ws })
top-found None [] h b = refl
top-found None (w ∷ ws) h b = ap (λ t. cond t (named ws) (Some (record { top = None; rest = w ∷ ws }))) (no-flag w b)
top-found (Some n) ws h b = ap (λ t. cond t (Some (record { top = Some n; rest = ws })) None) h

-- what was found behind the name of a top
pub record IsTopped (ws : List (List ℕ)) (t : Topped) : Type 0 where
  pub spelled : ws ≡ top_words t.top ++ t.rest
  pub formed : IsTop t.top

found-named : (ws : List (List ℕ)) (t : Topped) → named ws ≡ Some t → IsTopped (codes "--top" ∷ ws) t
found-named [] t e = cc e
found-named (n ∷ ws) t e = go (is_word n) refl e
  where
    go : (b : Bool) → is_word n ≡ b → cond b (Some (record { top = Some n; rest = ws })) None ≡ Some t → IsTopped (codes "--top" ∷ n ∷ ws) t
    go true q f = let same : record { top = Some n; rest = ws } ≡ t = cc f in subst (IsTopped (codes "--top" ∷ n ∷ ws)) same (record { spelled = refl; formed = q })
    go false q f = cc f

found-top : (ws : List (List ℕ)) (t : Topped) → topped ws ≡ Some t → IsTopped ws t
found-top [] t e = let same : record { top = None; rest = [] } ≡ t = cc e in subst (IsTopped []) same (record { spelled = refl; formed = tt })
found-top (w ∷ ws) t e = go (bytes_eq w (codes "--top")) refl e
  where
    go : (b : Bool) → bytes_eq w (codes "--top") ≡ b → cond b (named ws) (Some (record { top = None; rest = w ∷ ws })) ≡ Some t → IsTopped (w ∷ ws) t
    go true q f = subst (λ v. IsTopped (v ∷ ws) t) (sym (same-text w (codes "--top") q)) (found-named ws t f)
    go false q f = let same : record { top = None; rest = w ∷ ws } ≡ t = cc f in subst (IsTopped (w ∷ ws)) same (record { spelled = refl; formed = tt })

-- The wait states.

-- the first of some words gives no wait states, if there is one
abbrev Follows : List (List ℕ) → Type 0
Follows [] = Unit {0}
Follows (w ∷ ws) = bytes_eq w (codes "--waits") ≡ false

follows : (top : Option (List ℕ)) (w : List ℕ) (ws : List (List ℕ)) → is_file w ≡ true → Follows (top_words top ++ w ∷ ws)
follows None w ws e = no-waits w e
follows (Some n) w ws e = refl

few-waits : (n : ℕ) → n ≤ 1 → (n ≡ 0) ⊎ (n ≡ 1)
few-waits zero h = inl refl
few-waits (suc zero) h = inr refl
few-waits (suc (suc n)) h = absurd (omega (arith, h))

waits-found : (waits : Option ℕ) (ws : List (List ℕ)) → IsWaits waits → Follows ws → waited (waits_words waits ++ ws) ≡ Some (record { waits = waits; rest = ws })
waits-found None [] h f = refl
waits-found None (w ∷ ws) h f = ap (λ t. cond t (counted ws) (Some (record { waits = None; rest = w ∷ ws }))) f
waits-found (Some n) ws h f = elim (few-waits n h) [
  | inl e ↦ subst Is (sym e) (ap (λ w. counted (w ∷ ws)) (decimal_digit 0 (lit< tt)))
  | inr e ↦ subst Is (sym e) (ap (λ w. counted (w ∷ ws)) (decimal_digit 1 (lit< tt)))
]
  where
    Is : ℕ → Type 0
    Is m = counted (decimal m ∷ ws) ≡ Some (record { waits = Some m; rest = ws })

-- what was found behind wait states
pub record IsWaited (ws : List (List ℕ)) (t : Waited) : Type 0 where
  pub spelled : ws ≡ waits_words t.waits ++ t.rest
  pub formed : IsWaits t.waits

found-counted : (ws : List (List ℕ)) (t : Waited) → counted ws ≡ Some t → IsWaited (codes "--waits" ∷ ws) t
found-counted [] t e = cc e
found-counted (w ∷ ws) t e = none (bytes_eq w (codes "0")) refl e
  where
    is : (n : ℕ) → n < 10 → n ≤ 1 → w ≡ (48 + n) ∷ [] → record { waits = Some n; rest = ws } ≡ t → IsWaited (codes "--waits" ∷ w ∷ ws) t
    is n small few q same = subst (IsWaited (codes "--waits" ∷ w ∷ ws)) same (record { spelled = ap (λ v. codes "--waits" ∷ v ∷ ws) (q ∙ sym (decimal_digit n small)); formed = few })

    one : (b : Bool) → bytes_eq w (codes "1") ≡ b → cond b (Some (record { waits = Some 1; rest = ws })) None ≡ Some t → IsWaited (codes "--waits" ∷ w ∷ ws) t
    one true q f = is 1 (lit< tt) (lit≤ tt) (same-text w (codes "1") q) (cc f)
    one false q f = cc f

    none : (b : Bool) → bytes_eq w (codes "0") ≡ b → cond b (Some (record { waits = Some 0; rest = ws })) (cond (bytes_eq w (codes "1")) (Some (record { waits = Some 1; rest = ws })) None) ≡ Some t → IsWaited (codes "--waits" ∷ w ∷ ws) t
    none true q f = is 0 (lit< tt) (lit≤ tt) (same-text w (codes "0") q) (cc f)
    none false q f = one (bytes_eq w (codes "1")) refl f

found-waits : (ws : List (List ℕ)) (t : Waited) → waited ws ≡ Some t → IsWaited ws t
found-waits [] t e = let same : record { waits = None; rest = [] } ≡ t = cc e in subst (IsWaited []) same (record { spelled = refl; formed = tt })
found-waits (w ∷ ws) t e = go (bytes_eq w (codes "--waits")) refl e
  where
    go : (b : Bool) → bytes_eq w (codes "--waits") ≡ b → cond b (counted ws) (Some (record { waits = None; rest = w ∷ ws })) ≡ Some t → IsWaited (w ∷ ws) t
    go true q f = subst (λ v. IsWaited (v ∷ ws) t) (sym (same-text w (codes "--waits") q)) (found-counted ws t f)
    go false q f = let same : record { waits = None; rest = w ∷ ws } ≡ t = cc f in subst (IsWaited (w ∷ ws)) same (record { spelled = refl; formed = tt })

-- Commands.

-- what is asked for is found
asked-found : (c : Command) → IsCommand c → found_in (words_of c) ≡ Some c
asked-found (compile waits top source) h =
    let file = file-yes source h.2 in
    ap (λ ws. compiled (waited ws)) (append_assoc (waits_words waits) (top_words top) (source ∷ []))
    ∙ ap compiled (waits-found waits (top_words top ++ source ∷ []) h.0 (follows top source [] file))
    ∙ ap (one_file (compile waits)) (top-found top (source ∷ []) h.1 file) ∙ ap (λ t. cond t (Some (compile waits top source)) None) file
asked-found (map_of top source) h = ap (one_file map_of) (top-found top (source ∷ []) h.0 (file-yes source h.1)) ∙ ap (λ t. cond t (Some (map_of top source)) None) (file-yes source h.1)
asked-found (header_of top source) h = ap (one_file header_of) (top-found top (source ∷ []) h.0 (file-yes source h.1)) ∙ ap (λ t. cond t (Some (header_of top source)) None) (file-yes source h.1)
asked-found (manual_of top source) h = ap (one_file manual_of) (top-found top (source ∷ []) h.0 (file-yes source h.1)) ∙ ap (λ t. cond t (Some (manual_of top source)) None) (file-yes source h.1)
asked-found (axi_of top source) h = ap (one_file axi_of) (top-found top (source ∷ []) h.0 (file-yes source h.1)) ∙ ap (λ t. cond t (Some (axi_of top source)) None) (file-yes source h.1)
asked-found (check top sources) h = ap some_files (top-found top sources h.0 (begins sources (recursion_from_All IsFileWord sources h.1.each))) ∙ ap (λ t. cond t (Some (check top sources)) None) (are-yes sources h.1)
  where
    begins : (ws : List (List ℕ)) → AllByRecursion IsFileWord ws → Begins ws
    begins [] g = tt
    begins (w ∷ ws) g = file-yes w g.0
asked-found (sim verilog stimulus) h = ap (λ t. cond (t && is_file stimulus) (Some (sim verilog stimulus)) None) (file-yes verilog h.0) ∙ ap (λ t. cond t (Some (sim verilog stimulus)) None) (file-yes stimulus h.1)
asked-found (vcd verilog stimulus) h = ap (λ t. cond (t && is_file stimulus) (Some (vcd verilog stimulus)) None) (file-yes verilog h.0) ∙ ap (λ t. cond t (Some (vcd verilog stimulus)) None) (file-yes stimulus h.1)
asked-found (pins_of waves) h = ap (λ t. cond t (Some (pins_of waves)) None) (file-yes waves h)
asked-found (run_of waits top source stimulus) h =
    let file = file-yes source h.2 in
    ap (λ ws. ran (waited ws)) (append_assoc (waits_words waits) (top_words top) (source ∷ stimulus ∷ []))
    ∙ ap ran (waits-found waits (top_words top ++ source ∷ stimulus ∷ []) h.0 (follows top source (stimulus ∷ []) file))
    ∙ ap (file_pair (run_of waits)) (top-found top (source ∷ stimulus ∷ []) h.1 file)
    ∙ ap (λ t. cond (t && is_file stimulus) (Some (run_of waits top source stimulus)) None) file ∙ ap (λ t. cond t (Some (run_of waits top source stimulus)) None) (file-yes stimulus h.3)
asked-found (drive_of top source script) h =
    let file = file-yes source h.1 in
    ap driven (top-found top (source ∷ script ∷ []) h.0 file)
    ∙ ap (λ t. cond (t && is_file script) (Some (drive_of top source script)) None) file ∙ ap (λ t. cond t (Some (drive_of top source script)) None) (file-yes script h.2)
asked-found (gen_of count) h = ap some_gen (count-found (decimal count) count (record { spelled = refl; some = h.0; few = h.1 }))

-- one file behind the name of a top
one-found : (f : Option (List ℕ) → List ℕ → Command) (ws : List (List ℕ)) (c : Command) → one_file f (topped ws) ≡ Some c
    → (top : Option (List ℕ)) × (source : List ℕ) × (ws ≡ top_words top ++ source ∷ []) × IsTop top × IsFileWord source × (f top source ≡ c)
one-found f ws c e = go (topped ws) refl e
  where
    go : (o : Option Topped) → topped ws ≡ o → one_file f o ≡ Some c → (top : Option (List ℕ)) × (source : List ℕ) × (ws ≡ top_words top ++ source ∷ []) × IsTop top × IsFileWord source × (f top source ≡ c)
    go None q g = cc g
    go (Some t) q g = rest t.rest refl g
      where
        is : IsTopped ws t
        is = found-top ws t q

        rest : (rs : List (List ℕ)) → t.rest ≡ rs → one_file f (Some (record { top = t.top; rest = rs })) ≡ Some c → (top : Option (List ℕ)) × (source : List ℕ) × (ws ≡ top_words top ++ source ∷ []) × IsTop top × IsFileWord source × (f top source ≡ c)
        rest [] r x = cc x
        rest (source ∷ []) r x = file (is_file source) refl x
          where
            file : (b : Bool) → is_file source ≡ b → cond b (Some (f t.top source)) None ≡ Some c → (top : Option (List ℕ)) × (source : List ℕ) × (ws ≡ top_words top ++ source ∷ []) × IsTop top × IsFileWord source × (f top source ≡ c)
            file true y z = (t.top, source, is.spelled ∙ ap (λ us. top_words t.top ++ us) r, is.formed, file-word source y, (let same : f t.top source ≡ c = cc z in same))
            file false y z = cc z
        rest (source ∷ more ∷ us) r x = cc x

compile-found : (ws : List (List ℕ)) (c : Command) → compiled (waited ws) ≡ Some c → Asks (codes "compile" ∷ ws) c
compile-found ws c e = go (waited ws) refl e
  where
    go : (o : Option Waited) → waited ws ≡ o → compiled o ≡ Some c → Asks (codes "compile" ∷ ws) c
    go None q g = cc g
    go (Some t) q g =
        let is = found-waits ws t q in
        let f = one-found (compile t.waits) t.rest c g in
        subst (Asks (codes "compile" ∷ ws)) f.5 (record {
          spelled = ap (λ us. codes "compile" ∷ us) (is.spelled ∙ ap (λ us. waits_words t.waits ++ us) f.2 ∙ sym (append_assoc (waits_words t.waits) (top_words f.0) (f.1 ∷ [])));
          formed = (is.formed, f.3, f.4);
        })

-- the form of a command with two files behind the name of a top
pub record IsPair (f : Option (List ℕ) → List ℕ → List ℕ → Command) (ws : List (List ℕ)) (c : Command) : Type 0 where
  pub top : Option (List ℕ)
  pub source : List ℕ
  pub stimulus : List ℕ
  pub spelled : ws ≡ top_words top ++ source ∷ stimulus ∷ []
  pub named : IsTop top
  pub first : IsFileWord source
  pub second : IsFileWord stimulus
  pub is : f top source stimulus ≡ c

pair-found : (f : Option (List ℕ) → List ℕ → List ℕ → Command) (ws : List (List ℕ)) (c : Command) → file_pair f (topped ws) ≡ Some c → IsPair f ws c
pair-found f ws c e = go (topped ws) refl e
  where
    go : (o : Option Topped) → topped ws ≡ o → file_pair f o ≡ Some c → IsPair f ws c
    go None q g = cc g
    go (Some t) q g = rest t.rest refl g
      where
        is : IsTopped ws t
        is = found-top ws t q

        rest : (rs : List (List ℕ)) → t.rest ≡ rs → file_pair f (Some (record { top = t.top; rest = rs })) ≡ Some c → IsPair f ws c
        rest [] r x = cc x
        rest (source ∷ []) r x = cc x
        rest (source ∷ stimulus ∷ []) r x = files (is_file source && is_file stimulus) refl x
          where
            files : (b : Bool) → (is_file source && is_file stimulus) ≡ b → cond b (Some (f t.top source stimulus)) None ≡ Some c → IsPair f ws c
            files true y z =
                let p = and-both (is_file source) (is_file stimulus) y in
                record {
                  top = t.top;
                  source = source;
                  stimulus = stimulus;
                  spelled = is.spelled ∙ ap (λ us. top_words t.top ++ us) r;
                  named = is.formed;
                  first = file-word source p.0;
                  second = file-word stimulus p.1;
                  is = cc z;
                }
            files false y z = cc z
        rest (source ∷ stimulus ∷ more ∷ us) r x = cc x

run-found : (ws : List (List ℕ)) (c : Command) → ran (waited ws) ≡ Some c → Asks (codes "run" ∷ ws) c
run-found ws c e = go (waited ws) refl e
  where
    go : (o : Option Waited) → waited ws ≡ o → ran o ≡ Some c → Asks (codes "run" ∷ ws) c
    go None q g = cc g
    go (Some t) q g =
        let is = found-waits ws t q in
        let f = pair-found (run_of t.waits) t.rest c g in
        subst (Asks (codes "run" ∷ ws)) f.is (record {
          spelled = ap (λ us. codes "run" ∷ us) (is.spelled ∙ ap (λ us. waits_words t.waits ++ us) f.spelled ∙ sym (append_assoc (waits_words t.waits) (top_words f.top) (f.source ∷ f.stimulus ∷ [])));
          formed = (is.formed, f.named, f.first, f.second);
        })

two-driven : (top : Option (List ℕ)) (rest : List (List ℕ)) → file_pair drive_of (Some (record { top = top; rest = rest })) ≡ driven_by top rest
two-driven top [] = refl
two-driven top (source ∷ []) = refl
two-driven top (source ∷ script ∷ []) = refl
two-driven top (source ∷ script ∷ more ∷ us) = refl

pair-driven : (o : Option Topped) → file_pair drive_of o ≡ driven o
pair-driven None = refl
pair-driven (Some t) = two-driven t.top t.rest

drive-found : (ws : List (List ℕ)) (c : Command) → driven (topped ws) ≡ Some c → Asks (codes "drive" ∷ ws) c
drive-found ws c e =
    let f = pair-found drive_of ws c (pair-driven (topped ws) ∙ e) in
    subst (Asks (codes "drive" ∷ ws)) f.is (record { spelled = ap (λ us. codes "drive" ∷ us) f.spelled; formed = (f.named, f.first, f.second) })

gen-found : (ws : List (List ℕ)) (c : Command) → one_count ws ≡ Some c → Asks (codes "gen" ∷ ws) c
gen-found [] c e = cc e
gen-found (w ∷ []) c e = go (count_in w) refl e
  where
    go : (o : Option ℕ) → count_in w ≡ o → some_gen o ≡ Some c → Asks (codes "gen" ∷ w ∷ []) c
    go None q g = cc g
    go (Some n) q g =
        let is = found-count w n q in
        let same : gen_of n ≡ c = cc g in
        subst (Asks (codes "gen" ∷ w ∷ [])) same (record { spelled = ap (λ v. codes "gen" ∷ v ∷ []) is.spelled; formed = (is.some, is.few) })
gen-found (w ∷ v ∷ ws) c e = cc e

some-found : (ws : List (List ℕ)) (c : Command) → some_files (topped ws) ≡ Some c → Asks (codes "check" ∷ ws) c
some-found ws c e = go (topped ws) refl e
  where
    go : (o : Option Topped) → topped ws ≡ o → some_files o ≡ Some c → Asks (codes "check" ∷ ws) c
    go None q g = cc g
    go (Some t) q g = files (are_files t.rest) refl g
      where
        files : (b : Bool) → are_files t.rest ≡ b → cond b (Some (check t.top t.rest)) None ≡ Some c → Asks (codes "check" ∷ ws) c
        files true y z =
            let is = found-top ws t q in
            let same : check t.top t.rest ≡ c = cc z in
            subst (Asks (codes "check" ∷ ws)) same (record { spelled = ap (λ us. codes "check" ∷ us) is.spelled; formed = (is.formed, are-words t.rest y) })
        files false y z = cc z

-- the form of a command with two files
pub record AreTwo (f : List ℕ → List ℕ → Command) (ws : List (List ℕ)) (c : Command) : Type 0 where
  pub verilog : List ℕ
  pub stimulus : List ℕ
  pub spelled : ws ≡ verilog ∷ stimulus ∷ []
  pub first : IsFileWord verilog
  pub second : IsFileWord stimulus
  pub is : f verilog stimulus ≡ c

two-found : (f : List ℕ → List ℕ → Command) (ws : List (List ℕ)) (c : Command) → two_files f ws ≡ Some c → AreTwo f ws c
two-found f [] c e = cc e
two-found f (v ∷ []) c e = cc e
two-found f (v ∷ s ∷ []) c e = go (is_file v && is_file s) refl e
  where
    go : (b : Bool) → (is_file v && is_file s) ≡ b → cond b (Some (f v s)) None ≡ Some c → AreTwo f (v ∷ s ∷ []) c
    go true q g = let p = and-both (is_file v) (is_file s) q in record { verilog = v; stimulus = s; spelled = refl; first = file-word v p.0; second = file-word s p.1; is = cc g }
    go false q g = cc g
two-found f (v ∷ s ∷ t ∷ ws) c e = cc e

sim-found : (ws : List (List ℕ)) (c : Command) → two_files sim ws ≡ Some c → Asks (codes "sim" ∷ ws) c
sim-found ws c e = let f = two-found sim ws c e in subst (Asks (codes "sim" ∷ ws)) f.is (record { spelled = ap (λ us. codes "sim" ∷ us) f.spelled; formed = (f.first, f.second) })

vcd-found : (ws : List (List ℕ)) (c : Command) → two_files vcd ws ≡ Some c → Asks (codes "vcd" ∷ ws) c
vcd-found ws c e = let f = two-found vcd ws c e in subst (Asks (codes "vcd" ∷ ws)) f.is (record { spelled = ap (λ us. codes "vcd" ∷ us) f.spelled; formed = (f.first, f.second) })

pins-found : (ws : List (List ℕ)) (c : Command) → one_dump ws ≡ Some c → Asks (codes "pins" ∷ ws) c
pins-found [] c e = cc e
pins-found (w ∷ []) c e = go (is_file w) refl e
  where
    go : (b : Bool) → is_file w ≡ b → cond b (Some (pins_of w)) None ≡ Some c → Asks (codes "pins" ∷ w ∷ []) c
    go true q g = let same : pins_of w ≡ c = cc g in subst (Asks (codes "pins" ∷ w ∷ [])) same (record { spelled = refl; formed = file-word w q })
    go false q g = cc g
pins-found (w ∷ v ∷ ws) c e = cc e

-- a first word that was found is the name of a command
under : (name word : List ℕ) (rest : List (List ℕ)) (c : Command) → bytes_eq name word ≡ true → Asks (word ∷ rest) c → Asks (name ∷ rest) c
under name word rest c q a = subst (λ n. Asks (n ∷ rest) c) (sym (same-text name word q)) a

map-found : (ws : List (List ℕ)) (c : Command) → one_file map_of (topped ws) ≡ Some c → Asks (codes "map" ∷ ws) c
map-found ws c e = let f = one-found map_of ws c e in subst (Asks (codes "map" ∷ ws)) f.5 (record { spelled = ap (λ us. codes "map" ∷ us) f.2; formed = (f.3, f.4) })

header-found : (ws : List (List ℕ)) (c : Command) → one_file header_of (topped ws) ≡ Some c → Asks (codes "header" ∷ ws) c
header-found ws c e = let f = one-found header_of ws c e in subst (Asks (codes "header" ∷ ws)) f.5 (record { spelled = ap (λ us. codes "header" ∷ us) f.2; formed = (f.3, f.4) })

manual-found : (ws : List (List ℕ)) (c : Command) → one_file manual_of (topped ws) ≡ Some c → Asks (codes "manual" ∷ ws) c
manual-found ws c e = let f = one-found manual_of ws c e in subst (Asks (codes "manual" ∷ ws)) f.5 (record { spelled = ap (λ us. codes "manual" ∷ us) f.2; formed = (f.3, f.4) })

axi-found : (ws : List (List ℕ)) (c : Command) → one_file axi_of (topped ws) ≡ Some c → Asks (codes "axi" ∷ ws) c
axi-found ws c e = let f = one-found axi_of ws c e in subst (Asks (codes "axi" ∷ ws)) f.5 (record { spelled = ap (λ us. codes "axi" ∷ us) f.2; formed = (f.3, f.4) })

-- one name of a command, or what comes behind it
found-by : (name word : List ℕ) (rest : List (List ℕ)) (c : Command) (here other : Option Command) → (here ≡ Some c → Asks (word ∷ rest) c) → (other ≡ Some c → Asks (name ∷ rest) c)
    → cond (bytes_eq name word) here other ≡ Some c → Asks (name ∷ rest) c
found-by name word rest c here other found behind e = go (bytes_eq name word) refl e
  where
    go : (b : Bool) → bytes_eq name word ≡ b → cond b here other ≡ Some c → Asks (name ∷ rest) c
    go true q f = under name word rest c q (found f)
    go false q f = behind f

-- what is found is asked for
found-asked : (ws : List (List ℕ)) (c : Command) → found_in ws ≡ Some c → Asks ws c
found-asked [] c e = cc e
found-asked (name ∷ rest) c e =
    found-by name (codes "compile") rest c (compiled (waited rest)) after-compile (compile-found rest c)
    (found-by name (codes "map") rest c (one_file map_of (topped rest)) after-map (map-found rest c)
    (found-by name (codes "header") rest c (one_file header_of (topped rest)) after-header (header-found rest c)
    (found-by name (codes "manual") rest c (one_file manual_of (topped rest)) after-manual (manual-found rest c)
    (found-by name (codes "axi") rest c (one_file axi_of (topped rest)) after-axi (axi-found rest c)
    (found-by name (codes "check") rest c (some_files (topped rest)) after-check (some-found rest c)
    (found-by name (codes "sim") rest c (two_files sim rest) after-sim (sim-found rest c)
    (found-by name (codes "vcd") rest c (two_files vcd rest) after-vcd (vcd-found rest c)
    (found-by name (codes "pins") rest c (one_dump rest) after-pins (pins-found rest c)
    (found-by name (codes "run") rest c (ran (waited rest)) after-run (run-found rest c)
    (found-by name (codes "drive") rest c (driven (topped rest)) after-drive (drive-found rest c)
    (found-by name (codes "gen") rest c (one_count rest) None (gen-found rest c) (λ x. cc x)))))))))))) e
  where
    after-drive : Option Command
    after-drive = cond (bytes_eq name (codes "gen")) (one_count rest) None

    after-run : Option Command
    after-run = cond (bytes_eq name (codes "drive")) (driven (topped rest)) after-drive

    after-pins : Option Command
    after-pins = cond (bytes_eq name (codes "run")) (ran (waited rest)) after-run

    after-vcd : Option Command
    after-vcd = cond (bytes_eq name (codes "pins")) (one_dump rest) after-pins

    after-sim : Option Command
    after-sim = cond (bytes_eq name (codes "vcd")) (two_files vcd rest) after-vcd

    after-check : Option Command
    after-check = cond (bytes_eq name (codes "sim")) (two_files sim rest) after-sim

    after-axi : Option Command
    after-axi = cond (bytes_eq name (codes "check")) (some_files (topped rest)) after-check

    after-manual : Option Command
    after-manual = cond (bytes_eq name (codes "axi")) (one_file axi_of (topped rest)) after-axi

    after-header : Option Command
    after-header = cond (bytes_eq name (codes "manual")) (one_file manual_of (topped rest)) after-manual

    after-map : Option Command
    after-map = cond (bytes_eq name (codes "header")) (one_file header_of (topped rest)) after-header

    after-compile : Option Command
    after-compile = cond (bytes_eq name (codes "map")) (one_file map_of (topped rest)) after-map

pub none-asked : (ws : List (List ℕ)) → found_in ws ≡ None → AsksNothing ws
none-asked ws e c a = let bad : None ≡ Some c = sym e ∙ ap found_in a.spelled ∙ asked-found c a.formed in cc bad

pub one-asked : (ws : List (List ℕ)) (c : Command) → found_in ws ≡ Some c → Asks ws c
one-asked ws c e = found-asked ws c e

-- words ask for one command at most
pub one-command : (ws : List (List ℕ)) (c d : Command) → Asks ws c → Asks ws d → c ≡ d
one-command ws c d a b = let same : Some c ≡ Some d = sym (asked-found c a.formed) ∙ ap found_in (sym a.spelled ∙ b.spelled) ∙ asked-found d b.formed in cc same
