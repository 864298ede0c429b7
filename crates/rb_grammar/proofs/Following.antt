-- How readings of two stacks of forms follow from one another.
use Rattle.std.proofs.Common.{◌≡◌, ◌≤◌, true, List, [], ◌∷◌, ◌++◌, length, refl, ap, arith, ◌⊎◌, inl, inr}
use Rattle.rb_grammar.specs.Forms.{Form, Tok, Non, ◌or◌, Opt, Many, ◌then◌, Grammar}
use Rattle.rb_grammar.specs.Readings.{Goal, Whole, Upto, behind_next, IsAhead, IsReached, Reads, reached, token, rule, first, second, none, some, no_turn, turn, both, IsBarred, Avoids, Same, Stops}

module _ {T N K : Type 0} (G : Grammar T N K) where
  -- a reading that has come to its goal reads anything
  pub at_goal : (g : Goal K) (fs : List (Form T N)) {ts : List K} → IsReached g ts → Reads G g fs ts
  at_goal Whole fs {ts = ts} e = elim e [ ]
  at_goal (Upto left) fs e = reached e

  -- What a reading of a form is, where it has not come to its goal.

  pub read_token : {g : Goal K} {fs : List (Form T N)} {a : T} {t : K} {ts : List K} → IsAhead g ts → Reads G g (Tok a ∷ fs) (t ∷ ts) → (G.is a t ≡ true) × Reads G g fs ts
  read_token ahead (token i r) = (i, r)
  read_token ahead (reached e) = absurd (omega (arith, ahead, ap length e))

  pub read_rule : {g : Goal K} {fs : List (Form T N)} {x : N} {ts : List K} → Reads G g (Non x ∷ fs) ts → Reads G g (G.rule x ∷ fs) ts
  read_rule (rule r) = r
  read_rule (reached e) = reached e

  pub read_both : {g : Goal K} {fs : List (Form T N)} {f h : Form T N} {ts : List K} → Reads G g ((f then h) ∷ fs) ts → Reads G g (f ∷ h ∷ fs) ts
  read_both (both r) = r
  read_both (reached e) = reached e

  pub read_many : {g : Goal K} {fs : List (Form T N)} {f : Form T N} {ts : List K} → Reads G g (Many f ∷ fs) ts → (Reads G g (f ∷ Many f ∷ fs) ts) ⊎ (Reads G g fs ts)
  read_many (turn r) = inl r
  read_many (no_turn r) = inr r
  read_many (reached e) = inr (reached e)

  pub read_opt : {g : Goal K} {fs : List (Form T N)} {f : Form T N} {ts : List K} → Reads G g (Opt f ∷ fs) ts → (Reads G g (f ∷ fs) ts) ⊎ (Reads G g fs ts)
  read_opt (some r) = inl r
  read_opt (none r) = inr r
  read_opt (reached e) = inr (reached e)

  pub read_or : {g : Goal K} {fs : List (Form T N)} {f h : Form T N} {ts : List K} → Reads G g ((f or h) ∷ fs) ts → (Reads G g (f ∷ fs) ts) ⊎ (Reads G g (h ∷ fs) ts)
  read_or (first r) = inl r
  read_or (second r) = inr r
  read_or (reached e) = inr (reached e)

  -- Steps that take no token.

  pub same : (ms : List T) (fs : List (Form T N)) (ts : List K) → Same G ms fs ts fs ts
  same ms fs ts = record { there = λ g hs av ah r. r; back = λ g hs r. r; on = omega arith }

  pub same_rule : (ms : List T) (x : N) (fs : List (Form T N)) (ts : List K) → Same G ms (Non x ∷ fs) ts (G.rule x ∷ fs) ts
  same_rule ms x fs ts = record { there = λ g hs av ah r. read_rule r; back = λ g hs r. rule r; on = omega arith }

  pub same_both : (ms : List T) (f h : Form T N) (fs : List (Form T N)) (ts : List K) → Same G ms ((f then h) ∷ fs) ts (f ∷ h ∷ fs) ts
  same_both ms f h fs ts = record { there = λ g hs av ah r. read_both r; back = λ g hs r. both r; on = omega arith }

  -- the first of two where the second is barred, and the other way round
  pub same_first : (ms : List T) (f h : Form T N) (fs : List (Form T N)) (ts : List K) → ((hs : List (Form T N)) → Avoids G ms hs → IsBarred G (h ∷ fs ++ hs) ts) → Same G ms ((f or h) ∷ fs) ts (f ∷ fs) ts
  same_first ms f h fs ts b = record {
    there = λ g hs av ah r. elim (read_or r) [ inl p ↦ p | inr q ↦ at_goal g (f ∷ fs ++ hs) (b hs av g q) ];
    back = λ g hs r. first r;
    on = omega arith;
  }

  pub same_second : (ms : List T) (f h : Form T N) (fs : List (Form T N)) (ts : List K) → ((hs : List (Form T N)) → Avoids G ms hs → IsBarred G (f ∷ fs ++ hs) ts) → Same G ms ((f or h) ∷ fs) ts (h ∷ fs) ts
  same_second ms f h fs ts b = record {
    there = λ g hs av ah r. elim (read_or r) [ inl p ↦ at_goal g (h ∷ fs ++ hs) (b hs av g p) | inr q ↦ q ];
    back = λ g hs r. second r;
    on = omega arith;
  }

  -- an optional part that is there, since what follows is barred, and one that is not, since it is barred itself
  pub same_some : (ms : List T) (f : Form T N) (fs : List (Form T N)) (ts : List K) → ((hs : List (Form T N)) → Avoids G ms hs → IsBarred G (fs ++ hs) ts) → Same G ms (Opt f ∷ fs) ts (f ∷ fs) ts
  same_some ms f fs ts b = record {
    there = λ g hs av ah r. elim (read_opt r) [ inl p ↦ p | inr q ↦ at_goal g (f ∷ fs ++ hs) (b hs av g q) ];
    back = λ g hs r. some r;
    on = omega arith;
  }

  pub same_none : (ms : List T) (f : Form T N) (fs : List (Form T N)) (ts : List K) → ((hs : List (Form T N)) → Avoids G ms hs → IsBarred G (f ∷ fs ++ hs) ts) → Same G ms (Opt f ∷ fs) ts fs ts
  same_none ms f fs ts b = record {
    there = λ g hs av ah r. elim (read_opt r) [ inl p ↦ at_goal g (fs ++ hs) (b hs av g p) | inr q ↦ q ];
    back = λ g hs r. none r;
    on = omega arith;
  }

  -- one more turn, and none
  pub same_turn : (ms : List T) (f : Form T N) (fs : List (Form T N)) (ts : List K) → ((hs : List (Form T N)) → Avoids G ms hs → IsBarred G (fs ++ hs) ts) → Same G ms (Many f ∷ fs) ts (f ∷ Many f ∷ fs) ts
  same_turn ms f fs ts b = record {
    there = λ g hs av ah r. elim (read_many r) [ inl p ↦ p | inr q ↦ at_goal g (f ∷ Many f ∷ fs ++ hs) (b hs av g q) ];
    back = λ g hs r. turn r;
    on = omega arith;
  }

  pub same_no_turn : (ms : List T) (f : Form T N) (fs : List (Form T N)) (ts : List K) → ((hs : List (Form T N)) → Avoids G ms hs → IsBarred G (f ∷ Many f ∷ fs ++ hs) ts) → Same G ms (Many f ∷ fs) ts fs ts
  same_no_turn ms f fs ts b = record {
    there = λ g hs av ah r. elim (read_many r) [ inl p ↦ at_goal g (fs ++ hs) (b hs av g p) | inr q ↦ q ];
    back = λ g hs r. no_turn r;
    on = omega arith;
  }

  -- A token.

  pub same_token : (ms : List T) (a : T) (t : K) (fs : List (Form T N)) (ts : List K) → G.is a t ≡ true → Same G ms (Tok a ∷ fs) (t ∷ ts) fs ts
  same_token ms a t fs ts i = record { there = λ g hs av ah r. (read_token ah r).1; back = λ g hs r. token i r; on = omega arith }

  -- A form before more forms, which avoid what it has to be followed by.

  pub before : {ms ns : List T} {f : Form T N} {ts us : List K} (fs : List (Form T N)) → ((hs : List (Form T N)) → Avoids G ms hs → Avoids G ns (fs ++ hs)) → Same G ns (f ∷ []) ts [] us → Same G ms (f ∷ fs) ts fs us
  before fs w p = record {
    there = λ g hs av ah r. p.there g (fs ++ hs) (w hs av) ah r;
    back = λ g hs r. p.back g (fs ++ hs) r;
    on = p.on;
  }

  pub stops_before : {ms ns : List T} {f : Form T N} {ts us : List K} (fs : List (Form T N)) → ((hs : List (Form T N)) → Avoids G ms hs → Avoids G ns (fs ++ hs)) → Stops G ns (f ∷ []) ts us → Stops G ms (f ∷ fs) ts us
  stops_before fs w p = record {
    begins = λ hs. p.begins (fs ++ hs);
    refuses = λ hs av r. p.refuses (fs ++ hs) (w hs av) r;
    on = p.on;
  }

  -- Forms that the next token begins nothing of stop right here.
  pub stops_here : (ms : List T) (fs : List (Form T N)) (us : List K) → ((hs : List (Form T N)) → Avoids G ms hs → IsBarred G (fs ++ hs) us) → Stops G ms fs us us
  stops_here ms fs [] b = record { begins = λ hs. reached refl; refuses = λ hs av r. b hs av Whole r; on = omega arith }
  stops_here ms fs (t ∷ us) b = record {
    begins = λ hs. reached refl;
    refuses = λ hs av r. absurd (omega (arith, ap length (b hs av (Upto us) r)));
    on = omega arith;
  }

ahead_on : {K : Type 0} (g : Goal K) (us vs : List K) → length us ≤ length vs → IsAhead g us → IsAhead g vs
ahead_on Whole us vs le a = tt
ahead_on (Upto left) us vs le a = omega (arith, le, a)

ahead_behind : {K : Type 0} (us : List K) → IsAhead (behind_next us) us
ahead_behind [] = tt
ahead_behind (t ∷ ts) = omega arith

infixl 20 ◌⟫◌
infixl 15 ◌⟫|◌
-- one step after another, and a stop after steps
pub ◌⟫◌ : {T N K : Type 0} {G : Grammar T N K} {ms : List T} {fs gs hs : List (Form T N)} {ts us vs : List K} → Same G ms fs ts gs us → Same G ms gs us hs vs → Same G ms fs ts hs vs
◌⟫◌ {us = us} {vs = vs} p q = record {
  there = λ g ks av ah r. q.there g ks av ah (p.there g ks av (ahead_on g vs us q.on ah) r);
  back = λ g ks r. p.back g ks (q.back g ks r);
  on = omega (arith, p.on, q.on);
}

pub ◌⟫|◌ : {T N K : Type 0} {G : Grammar T N K} {ms : List T} {fs gs : List (Form T N)} {ts us vs : List K} → Same G ms fs ts gs us → Stops G ms gs us vs → Stops G ms fs ts vs
◌⟫|◌ {us = us} {vs = vs} p q = record {
  begins = λ hs. p.back (Upto vs) hs (q.begins hs);
  refuses = λ hs av r. q.refuses hs av (p.there (behind_next vs) hs av (ahead_on (behind_next vs) vs us q.on (ahead_behind vs)) r);
  on = omega (arith, p.on, q.on);
}
