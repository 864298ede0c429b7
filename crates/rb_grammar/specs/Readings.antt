-- How a parser reads a stack of forms, and what each of its steps keeps.
use Rattle.std.specs.Prelude.{◌≡◌, ◌≤◌, Bool, true, false, IsTrue, List, [], ◌∷◌, ◌++◌, length}
use Rattle.rb_grammar.specs.Forms.{Form, Tok, Non, ◌or◌, Opt, Many, ◌then◌, Grammar}

-- how far a reading goes: to the end, or to where these tokens are left
pub data Goal (K : Type 0) : Type 0 where
  Whole : Goal K
  Upto : List K → Goal K

-- the goal behind the next token, or the end where there is none
abbrev pub behind_next : {K : Type 0} → List K → Goal K
behind_next [] = Whole
behind_next (t ∷ ts) = Upto ts

-- the goal is not before this place
abbrev pub IsAhead : {K : Type 0} → Goal K → List K → Type 0
IsAhead Whole ts = Unit {0}
IsAhead (Upto left) ts = length left ≤ length ts

-- the goal is this place
abbrev pub IsReached : {K : Type 0} → Goal K → List K → Type 0
IsReached Whole ts = ⊥
IsReached (Upto left) ts = ts ≡ left

module _ {T N K : Type 0} (G : Grammar T N K) where
  -- the tokens, as far as the goal, are of these forms in turn
  pub data Reads : Goal K → List (Form T N) → List K → Type 0 where
    whole : Reads Whole [] []
    reached : {fs : List (Form T N)} {ts left : List K} → ts ≡ left → Reads (Upto left) fs ts
    token : {g : Goal K} {fs : List (Form T N)} {a : T} {t : K} {ts : List K} → IsTrue (G.is a t) → Reads g fs ts → Reads g (Tok a ∷ fs) (t ∷ ts)
    rule : {g : Goal K} {fs : List (Form T N)} {x : N} {ts : List K} → Reads g (G.rule x ∷ fs) ts → Reads g (Non x ∷ fs) ts
    first : {g : Goal K} {fs : List (Form T N)} {f h : Form T N} {ts : List K} → Reads g (f ∷ fs) ts → Reads g ((f or h) ∷ fs) ts
    second : {g : Goal K} {fs : List (Form T N)} {f h : Form T N} {ts : List K} → Reads g (h ∷ fs) ts → Reads g ((f or h) ∷ fs) ts
    none : {g : Goal K} {fs : List (Form T N)} {f : Form T N} {ts : List K} → Reads g fs ts → Reads g (Opt f ∷ fs) ts
    some : {g : Goal K} {fs : List (Form T N)} {f : Form T N} {ts : List K} → Reads g (f ∷ fs) ts → Reads g (Opt f ∷ fs) ts
    no_turn : {g : Goal K} {fs : List (Form T N)} {f : Form T N} {ts : List K} → Reads g fs ts → Reads g (Many f ∷ fs) ts
    turn : {g : Goal K} {fs : List (Form T N)} {f : Form T N} {ts : List K} → Reads g (f ∷ Many f ∷ fs) ts → Reads g (Many f ∷ fs) ts
    both : {g : Goal K} {fs : List (Form T N)} {f h : Form T N} {ts : List K} → Reads g (f ∷ h ∷ fs) ts → Reads g ((f then h) ∷ fs) ts

  -- the next token is of this terminal
  abbrev pub at : T → List K → Bool
  at a [] = false
  at a (t ∷ ts) = G.is a t

  -- a token of the terminal is taken from the list, and these are left
  pub record Takes (a : T) (ts : List K) (t : K) (us : List K) : Type 0 where
    pub list : ts ≡ t ∷ us
    pub token : IsTrue (G.is a t)

  -- the next token is not of the terminal, and the list is left
  pub record Misses (a : T) (ts us : List K) : Type 0 where
    pub list : us ≡ ts
    pub token : at a ts ≡ false

  -- the next token begins nothing that the forms read
  abbrev pub IsBarred : List (Form T N) → List K → Type 0
  IsBarred fs ts = (g : Goal K) → Reads g fs ts → IsReached g ts

  -- no token of these terminals begins what the forms read
  abbrev pub Avoids : List T → List (Form T N) → Type 0
  Avoids [] fs = Unit {0}
  Avoids (a ∷ ms) fs = ((ts : List K) → at a ts ≡ true → IsBarred fs ts) × Avoids ms fs

  -- Whatever follows, if it begins with none of these terminals: to read fs from ts is to read gs from us.
  pub record Same (ms : List T) (fs : List (Form T N)) (ts : List K) (gs : List (Form T N)) (us : List K) : Type 0 where
    pub there : (g : Goal K) (hs : List (Form T N)) → Avoids ms hs → IsAhead g us → Reads g (fs ++ hs) ts → Reads g (gs ++ hs) us
    pub back : (g : Goal K) (hs : List (Form T N)) → Reads g (gs ++ hs) us → Reads g (fs ++ hs) ts
    pub on : length us ≤ length ts

  -- Whatever follows, if it begins with none of these terminals: the tokens before us begin what fs reads from ts,
  -- and the next token, or the end, does not go on with it.
  pub record Stops (ms : List T) (fs : List (Form T N)) (ts us : List K) : Type 0 where
    pub begins : (hs : List (Form T N)) → Reads (Upto us) (fs ++ hs) ts
    pub refuses : (hs : List (Form T N)) → Avoids ms hs → Reads (behind_next us) (fs ++ hs) ts → ⊥
    pub on : length us ≤ length ts
