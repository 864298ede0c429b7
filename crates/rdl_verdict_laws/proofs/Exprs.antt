-- Tokens derive one expression, apart from addresses.
use Rattle.std.proofs.Common.{◌≡◌, ℕ, ◌+◌, ◌≤◌, Bool, true, false, refl, sym, ap, ◌∙◌, List, [], ◌∷◌, ◌++◌, append_assoc, append-nil, map, Option, Some, None}
use Rattle.std.specs.Borrow.{Bor}
use Rattle.std.proofs.lemmas.List.{map-append}
use Rattle.plain_lemmas.proofs.Bools.{and-left}
use Rattle.rdl_base.specs.declared.keyword.Keyword.TheVariants as words
use Rattle.rdl_tree.specs.declared.expr.Expr.{Expr}
use Rattle.rdl_tree.specs.declared.expr.Expr.TheVariants as expr
use Rattle.rdl_tree.specs.declared.expr.Name.{Name}
use Rattle.rdl_tree.specs.declared.expr.Op.{Op}
use Rattle.rdl_tree.specs.declared.expr.Path.{Path}
use Rattle.rdl_tree.specs.declared.expr.Step.{Step}
use Rattle.rdl_tree.specs.declared.token.Mark.{Mark}
use Rattle.rdl_tree.specs.declared.token.Mark.TheVariants as marks
use Rattle.rdl_tree.specs.declared.token.Token.{Token}
use Rattle.rdl_tree.specs.declared.token.TokenKind.TheVariants as kinds
use Rattle.rdl_tree.specs.declared.token.Terminal.{Terminal}
use Rattle.rdl_tree.specs.declared.token.Terminal.TheVariants as terminals
use Rattle.rdl_tree.specs.Tree.{IsMark, IsName, operator_of, level, DerivesExpr, DerivesBinary, DerivesPrefix, DerivesPrimary, DerivesPath, DerivesSteps, DerivesStep, DerivesIndices}
use Rattle.rdl_tree.specs.Tree as tree
use Rattle.rdl_verdict_laws.specs.Plain.{nowhere, plain_expr, plain_path, plain_step}
use Rattle.rdl_verdict_laws.proofs.Built.{not_alike, pick_alike, path_alike}
use Rattle.rdl_verdict_laws.proofs.Tokens.{Same, Once, next, next_same, next_is, taken, name_once, prop_once, no_index, no_dot, ends_path, ends_primary, ends_binary, ends_expr, path_ends, primary_ends, binary_ends, operator_ends, operator_goes_on}
use Rattle.rdl_verdict_laws.proofs.Chains.{Link, plain_link, head_of, links_of, Chained, chained, chain_once}
use Rattle.rdl_verdict_laws.proofs.Chains as chain

-- a test of the next terminal, from the terminal
by : {a b : Option Terminal} (P : Option Terminal → Bool) {x : Bool} → a ≡ b → P b ≡ x → P a ≡ x
by P e h = ap P e ∙ h

against_test : {a b : Option Terminal} (P : Option Terminal → Bool) → a ≡ b → P a ≡ true → P b ≡ false → ⊥
against_test P e h k = let f : true ≡ false = sym h ∙ ap P e ∙ k in cc

-- the first terminals of phrases

pub path_first : {ts us : List Token} {p : Path} → DerivesPath ts us p → next ts ≡ Some terminals.Name
path_first (tree.steps e (tree.step n is) ss) = next_is n.1

abbrev first_of : {ts us : List Token} {e : Expr} → DerivesPrimary ts us e → Terminal
first_of (tree.number p e) = terminals.Number
first_of (tree.string p) = terminals.Str
first_of (tree.set_flag p) = terminals.Reserved words.True
first_of (tree.clear_flag p) = terminals.Reserved words.False
first_of (tree.brackets o d c) = terminals.Mark marks.OpenParen
first_of (tree.entry n c m) = terminals.Name
first_of (tree.path d) = terminals.Name
first_of (tree.item d a n) = terminals.Name

primary_first : {ts us : List Token} {e : Expr} (d : DerivesPrimary ts us e) → next ts ≡ Some (first_of d)
primary_first (tree.number p e) = next_is p
primary_first (tree.string p) = next_is p
primary_first (tree.set_flag p) = next_is p
primary_first (tree.clear_flag p) = next_is p
primary_first (tree.brackets o d c) = next_is o
primary_first (tree.entry n c m) = next_is n.1
primary_first (tree.path d) = path_first d
primary_first (tree.item d a n) = path_first d

not_not : {ts us : List Token} {e : Expr} (d : DerivesPrimary ts us e) → next ts ≡ Some (terminals.Mark marks.Not) → ⊥
not_not (tree.number p e) h = let k = next_is p in cc
not_not d h = let k = primary_first d in cc

steps_first : {ts us : List Token} {ss : List Step} → DerivesSteps ts us ss → ends_path (next us) ≡ true → no_index (next ts) ≡ true
steps_first {us = us} tree.no_step f = and-left (no_index (next us)) (no_dot (next us)) f
steps_first (tree.next_step d s ss) f = ap no_index (next_is d)

-- behind a name that "::" follows, a path is at its end
name_alone : {ts us ts' us' : List Token} {n : Name} {p : Path} → IsName ts us n → DerivesPath ts' us' p → Same ts ts' → next us ≡ Some (terminals.Mark marks.ColonColon) → next us' ≡ Some (terminals.Mark marks.ColonColon)
name_alone {us = us} n (tree.steps e (tree.step m is) ss) s h = go is ss (sym (next_same _ _ (name_once n m s).rest) ∙ h)
  where
    go : {us vs ws : List Token} {es : List Expr} {ss : List Step} → DerivesIndices us vs es → DerivesSteps vs ws ss → next us ≡ Some (terminals.Mark marks.ColonColon) → next ws ≡ Some (terminals.Mark marks.ColonColon)
    go tree.no_index tree.no_step k = k
    go tree.no_index (tree.next_step d s ss) k = let j = next_is d in cc
    go (tree.next_index o d c is) ss k = let j = next_is o in cc

-- what is left of a chain
data Rest : List Token → List Token → List Link → Type 0 where
  done : {us : List Token} → Rest us us []
  goes : {m : Mark} {o : Op} {t : Token} {us vs ws : List Token} {f : Expr} {ls : List Link} → operator_of m ≡ Some o → IsMark m us t vs → Chained vs ws f ls → Rest us ws (record { op = o; place = t.place; right = f } ∷ ls)

-- a tree is a front of a chain
record Front {k : ℕ} {ts us : List Token} {e : Expr} (d : DerivesBinary k ts us e) (ws : List Token) (h : Expr) (ls : List Link) : Type 0 where
  first : List Link
  behind : List Link
  middle : List Token
  parts : ls ≡ first ++ behind
  same : Same us middle
  head : plain_expr (head_of d) ≡ plain_expr h
  links : map plain_link (links_of d) ≡ map plain_link first
  left : Rest middle ws behind

-- behind an operator the next operand's front is the front of the rest
joined_front : {k : ℕ} {m : Mark} {o : Op} {t : Token} {ts us vs xs : List Token} {p q : Bor Expr} (e : operator_of m ≡ Some o) (l : k ≤ level o) (a : DerivesBinary (level o) ts us p.now) (i : IsMark m us t vs) (b : DerivesBinary (level o + 1) vs xs q.now)
    {ws : List Token} {h : Expr} {ls : List Link} → Front a ws h ls → ((ts' : List Token) (f : Expr) (ms : List Link) → Chained ts' ws f ms → Same vs ts' → Front b ws f ms) → ends_binary (next ws) ≡ true
    → Front (tree.joined {k = k} {a = p} {b = q} e l a i b) ws h ls
joined_front {m = m} {o = o} {t = t} {us = us} {vs = vs} {p = p} {q = q} e l a i b {ws = ws} {h = h} {ls = ls} f again y = go f.left f.parts f.same
  where
    go : {behind : List Link} {middle : List Token} → Rest middle ws behind → ls ≡ f.first ++ behind → Same us middle → Front (tree.joined {a = p} {b = q} e l a i b) ws h ls
    go done z s = absurd (operator_goes_on m o (next ws) e (sym (next_same _ _ s) ∙ next_is i) y)
    go (goes {m = m'} {o = o'} {t = t'} {f = g} {ls = ks} e' i' c) z s =
        let r = taken i i' s in
        let n : Some (terminals.Mark m) ≡ Some (terminals.Mark m') = sym (next_is i) ∙ next_same _ _ s ∙ next_is i' in
        let mm : m ≡ m' = cc in
        let w : Some o ≡ Some o' = sym e ∙ ap operator_of mm ∙ e' in
        let oo : o ≡ o' = cc in
        let fb = again _ _ _ c r.rest in
        let root : Link = record { op = o; place = t.place; right = head_of b } in
        let seen : Link = record { op = o'; place = t'.place; right = g } in
        let roots : plain_link root ≡ plain_link seen = λ j. record { op = oo j; place = r.place j; right = fb.head j } in
        record {
          first = f.first ++ (seen ∷ fb.first);
          behind = fb.behind;
          middle = fb.middle;
          parts = z ∙ ap (λ x. f.first ++ (seen ∷ x)) fb.parts ∙ sym (append_assoc f.first (seen ∷ fb.first) fb.behind);
          same = fb.same;
          head = f.head;
          links = map-append plain_link (links_of a) (root ∷ links_of b) ∙ (λ j. f.links j ++ (roots j ∷ fb.links j)) ∙ sym (map-append plain_link f.first (seen ∷ fb.first));
          left = fb.left;
        }

-- a tree that is a front of a chain at whose end it stops is the chain's tree
whole : {j k : ℕ} {ts us ts' us' : List Token} {e f : Expr} (d : DerivesBinary j ts us e) (b : DerivesBinary k ts' us' f) → Front d us' (head_of b) (links_of b) → ends_binary (next us) ≡ true → Once plain_expr us us' e f
whole {us = us} {us' = us'} {e = e} {f = f} d b r x = go r.left r.parts r.same
  where
    go : {behind : List Link} {middle : List Token} → Rest middle us' behind → links_of b ≡ r.first ++ behind → Same us middle → Once plain_expr us us' e f
    go done z s = record { rest = s; tree = chain_once d b r.head (r.links ∙ ap (map plain_link) (sym (z ∙ append-nil r.first))) }
    go (goes {m = m} {o = o} h i c) z s = absurd (operator_goes_on m o (next us) h (next_same _ _ s ∙ next_is i) x)

mutual
  pub expr_once : {ts us : List Token} {e : Expr} → DerivesExpr ts us e → {ts' us' : List Token} {f : Expr} → DerivesExpr ts' us' f → Same ts ts' → ends_expr (next us) ≡ true → ends_expr (next us') ≡ true → Once plain_expr us us' e f
  expr_once {us = us} (tree.binary a) {us' = us'} (tree.binary b) s x y = whole a b (front a (chained b) s (primary_ends (next us) (binary_ends (next us) x)) (binary_ends (next us') y)) (binary_ends (next us) x)
  expr_once {us = us} (tree.binary a) (tree.pick c q y1 r z) s x y =
      let h = whole a c (front a (chained c) s (primary_ends (next us) (binary_ends (next us) x)) (ap ends_binary (next_is q))) (binary_ends (next us) x) in
      absurd (against_test ends_expr (next_same _ _ h.rest ∙ next_is q) x refl)
  expr_once (tree.pick c q y1 r z) {us' = us'} (tree.binary b) s x y =
      let h = whole c b (front c (chained b) s (ap ends_primary (next_is q)) (binary_ends (next us') y)) (ap ends_binary (next_is q)) in
      absurd (against_test ends_expr (sym (next_same _ _ h.rest) ∙ next_is q) y refl)
  expr_once (tree.pick {c = c1} {a = a1} {b = b1} c q a r {ys = ys} b) (tree.pick {c = c2} {a = a2} {b = b2} c' q' a' r' {ys = ys'} b') s x y =
      let h = whole c c' (front c (chained c') s (ap ends_primary (next_is q)) (ap ends_binary (next_is q'))) (ap ends_binary (next_is q)) in
      let p = taken q q' h.rest in
      let i = whole a a' (front a (chained a') p.rest (ap ends_primary (next_is r)) (ap ends_binary (next_is r'))) (ap ends_binary (next_is r)) in
      let j = whole b b' (front b (chained b') (taken r r' i.rest).rest (primary_ends (next ys) (binary_ends (next ys) x)) (binary_ends (next ys') y)) (binary_ends (next ys) x) in
      record { rest = j.rest; tree = pick_alike c1 a1 b1 c2 a2 b2 _ _ h.tree i.tree j.tree p.place }

  front : {k : ℕ} {ts us : List Token} {e : Expr} (d : DerivesBinary k ts us e) → {ts' ws : List Token} {h : Expr} {ls : List Link} → Chained ts' ws h ls → Same ts ts' → ends_primary (next us) ≡ true → ends_binary (next ws) ≡ true → Front d ws h ls
  front (tree.operand d) {ws = ws} (chain.one b) s x y =
      let h = prefix_once d b s x (primary_ends (next ws) y) in
      record { first = []; behind = []; middle = ws; parts = refl; same = h.rest; head = h.tree; links = refl; left = done }
  front (tree.operand d) (chain.more {m = m} {o = o} {us = vs} b e i c) s x y =
      let h = prefix_once d b s x (by ends_primary (next_is i) (operator_ends m o e)) in
      record { first = []; behind = _; middle = vs; parts = refl; same = h.rest; head = h.tree; links = refl; left = goes e i c }
  front (tree.joined {m = m} {o = o} {a = p} {b = q} e l a i b) c s x y =
      joined_front {p = p} {q = q} e l a i b (front a c s (by ends_primary (next_is i) (operator_ends m o e)) y) (λ zs f ms c' s'. front b c' s' x y) y

  prefix_once : {ts us : List Token} {e : Expr} → DerivesPrefix ts us e → {ts' us' : List Token} {f : Expr} → DerivesPrefix ts' us' f → Same ts ts' → ends_primary (next us) ≡ true → ends_primary (next us') ≡ true → Once plain_expr us us' e f
  prefix_once (tree.plain d) (tree.plain b) s x y = primary_once d b s x y
  prefix_once (tree.plain d) (tree.not n b) s x y = absurd (not_not d (next_same _ _ s ∙ next_is n))
  prefix_once (tree.not n d) (tree.plain b) s x y = absurd (not_not b (sym (next_same _ _ s) ∙ next_is n))
  prefix_once (tree.not {e = e1} n d) (tree.not {e = e2} m b) s x y =
      let p = taken n m s in
      let h = primary_once d b p.rest x y in
      record { rest = h.rest; tree = not_alike e1 e2 _ _ h.tree p.place }

  primary_once : {ts us : List Token} {e : Expr} → DerivesPrimary ts us e → {ts' us' : List Token} {f : Expr} → DerivesPrimary ts' us' f → Same ts ts' → ends_primary (next us) ≡ true → ends_primary (next us') ≡ true → Once plain_expr us us' e f
  primary_once (tree.number {n = n} p e) (tree.number {n = n'} p' e') s x y =
      let r = taken p p' s in
      let k : kinds.Number n ≡ kinds.Number n' = sym e ∙ r.kind ∙ e' in
      let m : n ≡ n' = cc in
      record { rest = r.rest; tree = λ j. expr.Number (m j) (r.place j) }
  primary_once (tree.string p) (tree.string p') s x y = let r = taken p p' s in record { rest = r.rest; tree = λ j. expr.Str (r.text j) (r.place j) }
  primary_once (tree.set_flag p) (tree.set_flag p') s x y = let r = taken p p' s in record { rest = r.rest; tree = λ j. expr.Flag true (r.place j) }
  primary_once (tree.clear_flag p) (tree.clear_flag p') s x y = let r = taken p p' s in record { rest = r.rest; tree = λ j. expr.Flag false (r.place j) }
  primary_once (tree.brackets o d c) (tree.brackets o' d' c') s x y =
      let h = expr_once d d' (taken o o' s).rest (ap ends_expr (next_is c)) (ap ends_expr (next_is c')) in
      record { rest = (taken c c' h.rest).rest; tree = h.tree }
  primary_once (tree.entry n c m) (tree.entry n' c' m') s x y =
      let h = name_once n n' s in
      let i = name_once m m' (taken c c' h.rest).rest in
      record { rest = i.rest; tree = λ j. expr.EntryOf (h.tree j) (i.tree j) }
  primary_once {us = us} (tree.path d) {us' = us'} (tree.path d') s x y =
      let h = path_once d d' s (path_ends (next us) x) (path_ends (next us') y) in
      record { rest = h.rest; tree = λ j. expr.Ref (h.tree j) None }
  primary_once (tree.item d a n) (tree.item d' a' n') s x y =
      let h = path_once d d' s (ap ends_path (next_is a)) (ap ends_path (next_is a')) in
      let i = prop_once n n' (taken a a' h.rest).rest in
      record { rest = i.rest; tree = λ j. expr.Ref (h.tree j) (Some (i.tree j)) }
  primary_once (tree.entry n c m) (tree.path d) s x y = absurd (against_test ends_primary (name_alone n d s (next_is c)) y refl)
  primary_once (tree.path d) (tree.entry n c m) s x y = absurd (against_test ends_primary (name_alone n d (sym s) (next_is c)) x refl)
  primary_once (tree.entry n c m) (tree.item d a p) s x y = let h = name_alone n d s (next_is c) in let k = next_is a in cc
  primary_once (tree.item d a p) (tree.entry n c m) s x y = let h = name_alone n d (sym s) (next_is c) in let k = next_is a in cc
  primary_once {us = us} (tree.path d) (tree.item d' a n) s x y =
      let h = path_once d d' s (path_ends (next us) x) (ap ends_path (next_is a)) in
      absurd (against_test ends_primary (next_same _ _ h.rest ∙ next_is a) x refl)
  primary_once (tree.item d a n) {us' = us'} (tree.path d') s x y =
      let h = path_once d d' s (ap ends_path (next_is a)) (path_ends (next us') y) in
      absurd (against_test ends_primary (sym (next_same _ _ h.rest) ∙ next_is a) y refl)
  primary_once d b s x y = let p = primary_first d in let q = primary_first b in let n = next_same _ _ s in cc

  pub path_once : {ts us : List Token} {p : Path} → DerivesPath ts us p → {ts' us' : List Token} {q : Path} → DerivesPath ts' us' q → Same ts ts' → ends_path (next us) ≡ true → ends_path (next us') ≡ true → Once plain_path us us' p q
  path_once (tree.steps {p = p} e a d) (tree.steps {p = q} e' a' d') s x y =
      let h = step_once a a' s (steps_first d x) (steps_first d' y) in
      let i = steps_once d d' h.rest x y in
      record { rest = i.rest; tree = path_alike p q (ap (map plain_step) e ∙ (λ j. h.tree j ∷ i.tree j) ∙ sym (ap (map plain_step) e')) }

  steps_once : {ts us : List Token} {ss : List Step} → DerivesSteps ts us ss → {ts' us' : List Token} {zs : List Step} → DerivesSteps ts' us' zs → Same ts ts' → ends_path (next us) ≡ true → ends_path (next us') ≡ true → Once (map plain_step) us us' ss zs
  steps_once tree.no_step tree.no_step s x y = record { rest = s; tree = refl }
  steps_once tree.no_step (tree.next_step d a z) s x y = absurd (against_test ends_path (next_same _ _ s ∙ next_is d) x refl)
  steps_once (tree.next_step d a z) tree.no_step s x y = absurd (against_test ends_path (sym (next_same _ _ s) ∙ next_is d) y refl)
  steps_once (tree.next_step d a z) (tree.next_step d' a' z') s x y =
      let h = step_once a a' (taken d d' s).rest (steps_first z x) (steps_first z' y) in
      let i = steps_once z z' h.rest x y in
      record { rest = i.rest; tree = λ j. h.tree j ∷ i.tree j }

  step_once : {ts us : List Token} {a : Step} → DerivesStep ts us a → {ts' us' : List Token} {b : Step} → DerivesStep ts' us' b → Same ts ts' → no_index (next us) ≡ true → no_index (next us') ≡ true → Once plain_step us us' a b
  step_once (tree.step n is) (tree.step n' is') s x y =
      let h = name_once n n' s in
      let i = indices_once is is' h.rest x y in
      record { rest = i.rest; tree = λ j. record { name = h.tree j; index = nowhere (i.tree j) } }

  pub indices_once : {ts us : List Token} {es : List Expr} → DerivesIndices ts us es → {ts' us' : List Token} {fs : List Expr} → DerivesIndices ts' us' fs → Same ts ts' → no_index (next us) ≡ true → no_index (next us') ≡ true → Once (map plain_expr) us us' es fs
  indices_once tree.no_index tree.no_index s x y = record { rest = s; tree = refl }
  indices_once tree.no_index (tree.next_index o d c z) s x y = absurd (against_test no_index (next_same _ _ s ∙ next_is o) x refl)
  indices_once (tree.next_index o d c z) tree.no_index s x y = absurd (against_test no_index (sym (next_same _ _ s) ∙ next_is o) y refl)
  indices_once (tree.next_index o d c z) (tree.next_index o' d' c' z') s x y =
      let h = expr_once d d' (taken o o' s).rest (ap ends_expr (next_is c)) (ap ends_expr (next_is c')) in
      let i = indices_once z z' (taken c c' h.rest).rest x y in
      record { rest = i.rest; tree = λ j. h.tree j ∷ i.tree j }
