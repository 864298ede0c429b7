-- Environments of open bodies, one behind the other.
use Rattle.std.proofs.Common.{◌≡◌, ◌∙◌, ℕ, ◌<◌, List, [], ◌∷◌, ◌++◌, length, slice_get, slice_index_or, Option, None, Some, refl, sym, ap, subst, arith, ◌⊎◌, inl, inr}
use Rattle.std.specs.Borrow.{Bor}
use Rattle.std.proofs.lemmas.List.{length-append}
use Rattle.std.proofs.lemmas.Option.{slice_get_within}
use Rattle.plain_lemmas.proofs.Lists.{get-not_none}
use Rattle.rdl_base.specs.declared.fault.Fault.{Fault}
use Rattle.rdl_tree.specs.declared.value.Env.{Env}
use Rattle.rdl_values.specs.Bodies as values
use Rattle.rdl_values.specs.Bodies.{around}
use Rattle.rdl_values.specs.Seen.{around_of}
use Rattle.rdl_values.specs.Tabled.{listed_in}
use Rattle.rdl_values.specs.Values.{Around, Names}
use Rattle.rdl_bodies.specs.Kept.{AreBelow, AreKept, Grows}
use Rattle.rdl_bodies.specs.Sited.{HaveNames, IsOpenAs, own_names}
use Rattle.rdl_bodies.specs.declared.bodies.Bodies.{Bodies}
use Rattle.rdl_bodies.specs.declared.bodies.Body.{Body}
use Rattle.rdl_bodies.proofs.Growing.{begins_length, below_more, get_either, names_same, same_below, turned}
use Rattle.rdl_elab.specs.Envs.{AreEnvs, round}
use Rattle.rdl_elab.specs.Nodes.{CanShow}

pub envs_none : (bodies : List Body) (envs : List (Bor Env)) → envs ≡ [] → AreEnvs bodies envs
envs_none bodies envs e = record { few = let l = ap length e in omega (arith, l); each = λ k f outer names at have. cc }

-- Bodies that are put behind others change nothing of them.
pub envs_stay : (t u : Bodies) (held : List Fault) (envs : List (Bor Env)) → AreKept t held → Grows t u → AreEnvs t.list.items envs → AreEnvs u.list.items envs
envs_stay t u held envs inv grown old = record {
  few = let f = old.few in let l = begins_length t.list.items u.list.items grown.list in omega (arith, f, l);
  each = λ k e outer names at have. old.each k e outer names at (back k outer names (slice_get_within envs k e at) have);
}
  where
    low : (k : ℕ) (outer : List ℕ) (names : Around) → k < length envs → HaveNames u.list.items (k ∷ outer) names → AreBelow (length t.tables.items) (k ∷ outer)
    low k outer [] l have = absurd have
    low k outer (n ∷ ns) l have =
        let f = old.few in
        let i = inv.list in (
          omega (arith, l, f, i),
          below_more k (length t.tables.items) outer (omega (arith, l, f, i)) have.0.behind,
        )

    back : (k : ℕ) (outer : List ℕ) (names : Around) → k < length envs → HaveNames u.list.items (k ∷ outer) names → HaveNames t.list.items (k ∷ outer) names
    back k outer names l have = names_same u t (k ∷ outer) names (turned t u (k ∷ outer) (same_below t u (k ∷ outer) inv.components inv.list grown (low k outer names l have))) have

-- One more.
module _ (bodies : List Body) (envs : List (Bor Env)) (x : Body) (e : Bor Env) (old : AreEnvs bodies envs) (here : slice_get bodies (length envs) ≡ Some x) (is : around_of e.now ≡ own_names x ∷ listed_in (round envs x.numbers.now)) where
  at-number : (j : ℕ) (js : List ℕ) (names : Around) → j < length envs → HaveNames bodies (j ∷ js) names → listed_in (slice_get envs j) ≡ names
  at-number j js names l have = go (slice_get envs j) refl
    where
      go : (o : Option (Bor Env)) → slice_get envs j ≡ o → listed_in o ≡ names
      go None q = absurd (get-not_none envs j l q)
      go (Some f) q = old.each j f js names q have

  -- what is round a text of these bodies
  outer-names : (k : ℕ) (outer : List ℕ) (names : Around) → k ≡ length envs → AreBelow k outer → HaveNames bodies outer names → listed_in (round envs (k ∷ outer)) ≡ names
  outer-names k [] [] p low have = refl
  outer-names k [] (n ∷ ns) p low have = absurd have
  outer-names k (j ∷ js) names p low have = at-number j js names (let l = low.0 in omega (arith, l, p)) have

  new-names : (k : ℕ) (outer : List ℕ) (names : Around) → k ≡ length envs → HaveNames bodies (k ∷ outer) names → around_of e.now ≡ names
  new-names k outer [] p have = absurd have
  new-names k outer (n ∷ ns) p have =
      let h = have.0 in
      let both : Some h.body ≡ Some x = sym h.here ∙ ap (slice_get bodies) p ∙ here in
      let same : h.body ≡ x = cc in
      let numbers : x.numbers.now ≡ k ∷ outer = subst (λ y. y.numbers.now ≡ k ∷ outer) same h.numbers_are in
      is ∙ ap (λ ws. own_names x ∷ ws) (ap (λ ks. listed_in (round envs ks)) numbers ∙ outer-names k outer ns p h.behind have.1) ∙ ap (λ m. m ∷ ns) (subst (λ y. own_names y ≡ n) same h.names_are)

  pub envs_more : AreEnvs bodies (envs ++ (e ∷ []))
  envs_more = record {
    few = let a = length-append envs (e ∷ []) in let b = slice_get_within bodies (length envs) x here in omega (arith, a, b);
    each = λ k f outer names at have. go k f outer names have (get_either envs e f k at);
  }
    where
      go : (k : ℕ) (f : Bor Env) (outer : List ℕ) (names : Around) → HaveNames bodies (k ∷ outer) names → (slice_get envs k ≡ Some f) ⊎ ((k ≡ length envs) × (e ≡ f)) → around_of f.now ≡ names
      go k f outer names have (inl q) = old.each k f outer names q have
      go k f outer names have (inr q) = subst (λ g. around_of g.now ≡ names) q.1 (new-names k outer names q.0 have)

-- The environment of an open body is that of the nearest of those that it shows.

first-below : (bodies : List Body) (ks : List ℕ) (n : Names) (ns : Around) → HaveNames bodies ks (n ∷ ns) → slice_index_or ks 0 0 < length bodies
first-below bodies [] n ns have = absurd have
first-below bodies (k ∷ ks) n ns have = slice_get_within bodies k have.0.body have.0.here

first-env : (bodies : List Body) (envs : List (Bor Env)) (ks : List ℕ) (n : Names) (ns : Around) (e : Bor Env) → AreEnvs bodies envs → HaveNames bodies ks (n ∷ ns) → slice_get envs (slice_index_or ks 0 0) ≡ Some e → around_of e.now ≡ n ∷ ns
first-env bodies envs [] n ns e known have at = absurd have
first-env bodies envs (k ∷ ks) n ns e known have at = known.each k e ks (n ∷ ns) at have

module _ (t : Bodies) (x : Body) (number : ℕ) (here : slice_get t.list.items number ≡ Some x) where
  is-open : (y : Body) (b : values.Body) → slice_get t.list.items number ≡ Some y → IsOpenAs t y b → IsOpenAs t x b
  is-open y b at h = let both : Some y ≡ Some x = sym at ∙ here in let same : y ≡ x = cc in subst (λ z. IsOpenAs t z b) same h

  pub env_there : (envs : List (Bor Env)) → CanShow t number → length envs ≡ length t.list.items → slice_index_or x.numbers.now 0 0 < length envs
  env_there envs can all = subst (λ m. slice_index_or x.numbers.now 0 0 < m) (sym all) (first-below t.list.items x.numbers.now can.shown.names (around can.shown.outer) (is-open can.opened can.shown can.here can.open_).names)

  pub env_shown : (envs : List (Bor Env)) (e : Bor Env) → AreEnvs t.list.items envs → slice_get envs (slice_index_or x.numbers.now 0 0) ≡ Some e → (y : Body) (b : values.Body) → slice_get t.list.items number ≡ Some y → IsOpenAs t y b → around_of e.now ≡ b.names ∷ around b.outer
  env_shown envs e known at y b there h = first-env t.list.items envs x.numbers.now b.names (around b.outer) e known (is-open y b there h).names at
