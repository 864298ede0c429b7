-- What holds of each statement of an accepted design.
use Rattle.std.specs.Bool.{OnTrue}
use Rattle.std.specs.Str.{bytes_eq}
use Rattle.std.proofs.Common.{◌≡◌, ℕ, zero, suc, ◌<◌, if◌then◌else◌, Some, List, [], ◌∷◌, length, get_or, map, refl, ap, sym, subst, ◌∙◌, arith}
use Rattle.std.proofs.lemmas.List.{length-map}
use Rattle.v_design.specs.Expr.{Values}
use Rattle.v_design.specs.Design.{Module, Step, widths}
use Rattle.v_design.specs.Seen.{module_seen, step_seen}
use Rattle.v_design.specs.Run.{step_value, next_value}
use Rattle.v_design.specs.declared.design.Design.{Design}
use Rattle.v_design.specs.declared.design.Stmt.{Stmt}
use Rattle.cyc_sim.specs.Accepted.{IsAccepted}
use Rattle.cyc_sim.specs.Preparing.{IsSettling}
use Rattle.cyc_sim.specs.Compiled.{Known, known_at}
use Rattle.cyc_sim.specs.declared.listing.Wire.{Wire}
use Rattle.cyc_sim.proofs.Facts.{IsSoundStep, sound_steps, each_at}

-- a step is sound, its net is settled, and its register moves
pub record Acts (m : Module) (s : Step) : Type 0 where
  pub sound : IsSoundStep m s
  pub settled : (base : List ℕ) (v after : Values) → (h : IsSettling m base v after) → v s.to ≡ step_value (widths m) h.contents v s
  pub moved : (base : List ℕ) (v after : Values) → (h : IsSettling m base v after) → OnTrue s.clocked (after s.to ≡ next_value (widths m) v s)

get_or-mapped : {A B : Type 0} (f : A → B) (xs : List A) (i : ℕ) (d : A) → get_or (map f xs) i (f d) ≡ f (get_or xs i d)
get_or-mapped f [] i d = refl
get_or-mapped f (x ∷ xs) zero d = refl
get_or-mapped f (x ∷ xs) (suc i) d = get_or-mapped f xs i d

step_acts : (m : Module) → IsAccepted m → (i : ℕ) (d : Step) → i < length m.steps → Acts m (get_or m.steps i d)
step_acts m a i d l = record {
  sound = each_at (IsSoundStep m) m.steps i d (sound_steps m a) l;
  settled = λ base v after h. each_at (λ s. v s.to ≡ step_value (widths m) h.contents v s) m.steps i d h.settled l;
  moved = λ base v after h. each_at (λ s. OnTrue s.clocked (after s.to ≡ next_value (widths m) v s)) m.steps i d h.moved l;
}

pub statement_acts : (d : Design) → IsAccepted (module_seen d) → (items : List Stmt) (i : ℕ) (x : Stmt) → items ≡ d.stmts.items → i < length items → x ≡ get_or items i x → Acts (module_seen d) (step_seen x)
statement_acts d a items i x same l is =
    let here : get_or (module_seen d).steps i (step_seen x) ≡ step_seen x = get_or-mapped step_seen d.stmts.items i x ∙ ap step_seen (ap (λ ss. get_or ss i x) (sym same) ∙ sym is) in
    let low : i < length (module_seen d).steps = omega (arith, length-map d.stmts.items step_seen, ap length same, l) in
    subst (Acts (module_seen d)) here (step_acts (module_seen d) a i (step_seen x) low)

-- what a map has after a change at a text that is this name
pub updated_at : (known known' : Known) (text to : List ℕ) (w : Wire) → text ≡ to → ((name : List ℕ) → known_at known' name ≡ (if bytes_eq text name then Some w else known_at known name))
    → (name : List ℕ) → known_at known' name ≡ (if bytes_eq to name then Some w else known_at known name)
updated_at known known' text to w is h name = h name ∙ ap (λ t. if bytes_eq t name then Some w else known_at known name) is
