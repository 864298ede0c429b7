-- A parser's steps: each is found by computation, from the table and from what was seen of the next token.
use Rattle.std.specs.List.{list_all}
use Rattle.std.proofs.Common.{◌≡◌, ℕ, zero, suc, Bool, true, false, not, if◌then◌else◌, List, [], ◌∷◌, ◌++◌, refl, sym, ◌∙◌, subst}
use Rattle.std.proofs.lemmas.Bool.{and_parts, not-true}
use Rattle.std.specs.Prelude.{Result, Ok, Err}
use Rattle.std.specs.Result.{IsErrAnd}
use Rattle.rb_grammar.specs.declared.stop.Stop.{Stop}
use Rattle.rb_grammar.specs.declared.stop.Stop.TheVariants.{Syntax}
use Rattle.rb_grammar.specs.Forms.{Form, Tok, Non, ◌or◌, Opt, Many, ◌then◌, Grammar}
use Rattle.rb_grammar.specs.Readings.{at, Takes, Misses, Avoids, Same, Stops}
use Rattle.rb_grammar.specs.Firsts.{Table, IsTableOf}
use Rattle.rb_grammar.proofs.Following.{◌⟫◌, same, same_rule, same_both, same_first, same_second, same_some, same_none, same_turn, same_no_turn, same_token, before, stops_before, stops_here}
use Rattle.rb_grammar.proofs.Barring.{Sight, Here, Without, can, Holds, barred}

module _ {T N : Type 0} (S : Table T N) where
  -- the stack as far as what was seen decides it: choices are made, parts that can't be there are left out, and
  -- parts that have to be there stand open
  abbrev pub opened : ℕ → Sight T → List T → List (Form T N) → List (Form T N)
  opened zero s ms fs = fs
  opened (suc n) s ms [] = []
  opened (suc n) s ms (Tok a ∷ fs) = Tok a ∷ fs
  opened (suc n) s ms (Non x ∷ fs) = Non x ∷ fs
  opened (suc n) s ms ((f or g) ∷ fs) =
      if can S s ms (g ∷ fs) then (if can S s ms (f ∷ fs) then (f or g) ∷ fs else opened n s ms (g ∷ fs)) else opened n s ms (f ∷ fs)
  opened (suc n) s ms (Opt f ∷ fs) =
      if can S s ms (f ∷ fs) then (if can S s ms fs then Opt f ∷ fs else opened n s ms (f ∷ fs)) else opened n s ms fs
  opened (suc n) s ms (Many f ∷ fs) =
      if can S s ms (f ∷ Many f ∷ fs) then (if can S s ms fs then Many f ∷ fs else opened n s ms (f ∷ Many f ∷ fs)) else opened n s ms fs
  opened (suc n) s ms ((f then g) ∷ fs) = opened n s ms (f ∷ g ∷ fs)

  -- what follows a form begins with none of these terminals
  abbrev pub avoids : List T → List T → List (Form T N) → Bool
  avoids ns ms fs = list_all (λ a. not (can S (Here a) ms fs)) ns

-- the stack with its first form taken apart
abbrev pub apart : {T N : Type 0} → Form T N → List (Form T N) → List (Form T N)
apart (Tok a) fs = Tok a ∷ fs
apart (Non x) fs = Non x ∷ fs
apart (f or g) fs = (f or g) ∷ fs
apart (Opt f) fs = Opt f ∷ fs
apart (Many f) fs = Many f ∷ fs
apart (f then g) fs = apart f (g ∷ fs)

abbrev pub parts : {T N : Type 0} → List (Form T N) → List (Form T N)
parts [] = []
parts (f ∷ fs) = apart f fs

module _ {T N K : Type 0} (G : Grammar T N K) where
  pub same_apart : (ms : List T) (f : Form T N) (fs : List (Form T N)) (ts : List K) → Same G ms (f ∷ fs) ts (apart f fs) ts
  same_apart ms (Tok a) fs ts = same G ms (Tok a ∷ fs) ts
  same_apart ms (Non x) fs ts = same G ms (Non x ∷ fs) ts
  same_apart ms (f or g) fs ts = same G ms ((f or g) ∷ fs) ts
  same_apart ms (Opt f) fs ts = same G ms (Opt f ∷ fs) ts
  same_apart ms (Many f) fs ts = same G ms (Many f ∷ fs) ts
  same_apart ms (f then g) fs ts = same_both G ms f g fs ts ⟫ same_apart ms f (g ∷ fs) ts

  pub same_parts : (ms : List T) (fs : List (Form T N)) (ts : List K) → Same G ms fs ts (parts fs) ts
  same_parts ms [] ts = same G ms [] ts
  same_parts ms (f ∷ fs) ts = same_apart ms f fs ts

module _ {T N K : Type 0} (G : Grammar T N K) (S : Table T N) (R : IsTableOf G S) where
  choose : (ms : List T) (fs hs ks : List (Form T N)) (ts : List K) (b c : Bool) → (b ≡ false → Same G ms fs ts ks ts) → (c ≡ false → Same G ms fs ts hs ts)
      → Same G ms fs ts (if b then (if c then fs else hs) else ks) ts
  choose ms fs hs ks ts true true p q = same G ms fs ts
  choose ms fs hs ks ts true false p q = q refl
  choose ms fs hs ks ts false c p q = p refl

  open_by : (n : ℕ) (s : Sight T) (ms : List T) (fs : List (Form T N)) (ts : List K) → Holds G S R s ts → Same G ms fs ts (opened S n s ms fs) ts
  open_by zero s ms fs ts h = same G ms fs ts
  open_by (suc n) s ms [] ts h = same G ms [] ts
  open_by (suc n) s ms (Tok a ∷ fs) ts h = same G ms (Tok a ∷ fs) ts
  open_by (suc n) s ms (Non x ∷ fs) ts h = same G ms (Non x ∷ fs) ts
  open_by (suc n) s ms ((f or g) ∷ fs) ts h =
      choose ms ((f or g) ∷ fs) (opened S n s ms (g ∷ fs)) (opened S n s ms (f ∷ fs)) ts (can S s ms (g ∷ fs)) (can S s ms (f ∷ fs))
      (λ e. same_first G ms f g fs ts (λ hs av. barred G S R s ms (g ∷ fs) hs ts h av e) ⟫ open_by n s ms (f ∷ fs) ts h)
      (λ e. same_second G ms f g fs ts (λ hs av. barred G S R s ms (f ∷ fs) hs ts h av e) ⟫ open_by n s ms (g ∷ fs) ts h)
  open_by (suc n) s ms (Opt f ∷ fs) ts h =
      choose ms (Opt f ∷ fs) (opened S n s ms (f ∷ fs)) (opened S n s ms fs) ts (can S s ms (f ∷ fs)) (can S s ms fs)
      (λ e. same_none G ms f fs ts (λ hs av. barred G S R s ms (f ∷ fs) hs ts h av e) ⟫ open_by n s ms fs ts h)
      (λ e. same_some G ms f fs ts (λ hs av. barred G S R s ms fs hs ts h av e) ⟫ open_by n s ms (f ∷ fs) ts h)
  open_by (suc n) s ms (Many f ∷ fs) ts h =
      choose ms (Many f ∷ fs) (opened S n s ms (f ∷ Many f ∷ fs)) (opened S n s ms fs) ts (can S s ms (f ∷ Many f ∷ fs)) (can S s ms fs)
      (λ e. same_no_turn G ms f fs ts (λ hs av. barred G S R s ms (f ∷ Many f ∷ fs) hs ts h av e) ⟫ open_by n s ms fs ts h)
      (λ e. same_turn G ms f fs ts (λ hs av. barred G S R s ms fs hs ts h av e) ⟫ open_by n s ms (f ∷ Many f ∷ fs) ts h)
  open_by (suc n) s ms ((f then g) ∷ fs) ts h = same_both G ms f g fs ts ⟫ open_by n s ms (f ∷ g ∷ fs) ts h

  pub avoiding : (ns ms : List T) (fs : List (Form T N)) → avoids S ns ms fs ≡ true → (hs : List (Form T N)) → Avoids G ms hs → Avoids G ns (fs ++ hs)
  avoiding [] ms fs e hs av = tt
  avoiding (a ∷ ns) ms fs e hs av =
      let p = and_parts (not (can S (Here a) ms fs)) (avoids S ns ms fs) e in
      (λ ts h. barred G S R (Here a) ms fs hs ts h av (not-true (can S (Here a) ms fs) p.0), avoiding ns ms fs p.1 hs av)

-- The steps. In each the premise about the stack is shown by refl, and the stack that is left is taken apart.

-- a rule's right side
pub entering : {T N K : Type 0} {G : Grammar T N K} {ms : List T} {x : N} {fs : List (Form T N)} {ts : List K} → Same G ms (Non x ∷ fs) ts (apart (G.rule x) fs) ts
entering {G = G} {ms = ms} {x = x} {fs = fs} {ts = ts} = same_rule G ms x fs ts ⟫ same_apart G ms (G.rule x) fs ts

-- what is left stays
pub staying : {T N K : Type 0} {G : Grammar T N K} {ms : List T} {fs : List (Form T N)} {ts us : List K} → us ≡ ts → Same G ms fs ts fs us
staying {G = G} {ms = ms} {fs = fs} {ts = ts} e = subst (λ z. Same G ms fs ts fs z) (sym e) (same G ms fs ts)

-- a token that is taken was next
pub seen : {T N K : Type 0} {G : Grammar T N K} {a : T} {t : K} {ts us : List K} → Takes G a ts t us → at G a ts ≡ true
seen {G = G} {a = a} i = subst (λ z. at G a z ≡ true) (sym i.list) i.token

module _ {T N K : Type 0} {G : Grammar T N K} {S : Table T N} (R : IsTableOf G S) where
  -- what was seen opens the stack
  pub opening : {ms : List T} {fs gs : List (Form T N)} {ts : List K} (s : Sight T) → opened S 32 s ms fs ≡ gs → Holds G S R s ts → Same G ms fs ts gs ts
  opening {ms = ms} {fs = fs} {ts = ts} s e h = subst (λ z. Same G ms fs ts z ts) e (open_by G S R 32 s ms fs ts h)

  -- a token that is taken
  pub taking : {ms : List T} {fs gs : List (Form T N)} {a : T} {ts us : List K} {t : K} → Takes G a ts t us → opened S 32 (Here a) ms fs ≡ Tok a ∷ gs → Same G ms fs ts (parts gs) us
  taking {ms = ms} {fs = fs} {gs = gs} {a = a} {us = us} {t = t} k e =
      subst (λ z. Same G ms fs z (parts gs) us) (sym k.list) (opening {ts = t ∷ us} (Here a) e k.token ⟫ same_token G ms a t gs us k.token ⟫ same_parts G ms gs us)

  -- a token that is not there: parts that begin with it are left out
  pub missing : {ms : List T} {fs gs : List (Form T N)} {a : T} {ts us : List K} → Misses G a ts us → opened S 32 (Without (a ∷ [])) ms fs ≡ gs → Same G ms fs ts gs us
  missing {a = a} k e = opening (Without (a ∷ [])) e (k.token, tt) ⟫ staying k.list

  -- a rule, or any form, that another function reads
  pub calling : {ms ns : List T} {f : Form T N} {fs : List (Form T N)} {ts us : List K} → Same G ns (f ∷ []) ts [] us → avoids S ns ms fs ≡ true → Same G ms (f ∷ fs) ts (parts fs) us
  calling {ms = ms} {ns = ns} {fs = fs} {us = us} p e = before G fs (avoiding G S R ns ms fs e) p ⟫ same_parts G ms fs us

  pub calling_stops : {ms ns : List T} {f : Form T N} {fs : List (Form T N)} {ts us : List K} → Stops G ns (f ∷ []) ts us → avoids S ns ms fs ≡ true → Stops G ms (f ∷ fs) ts us
  calling_stops {ms = ms} {ns = ns} {fs = fs} p e = stops_before G fs (avoiding G S R ns ms fs e) p

  -- a token that is not there, and without which the stack does not go on
  pub halting : {ms : List T} {fs : List (Form T N)} {a : T} {ts us : List K} → Misses G a ts us → can S (Without (a ∷ [])) ms fs ≡ false → Stops G ms fs ts us
  halting {ms = ms} {fs = fs} {a = a} {ts = ts} k e =
      subst (λ z. Stops G ms fs ts z) (sym k.list) (stops_here G ms fs ts (λ hs av. barred G S R (Without (a ∷ [])) ms fs hs ts (k.token, tt) av e))

-- The stop that a `?` passes on.
pub passed : {X : Type 0} (r : Result X Stop) (stop : Stop) → IsErrAnd r (λ e. e ≡ stop) → r ≡ Err Syntax → stop ≡ Syntax
passed (Err e) stop h p = let f : e ≡ Syntax = cc in sym h ∙ f
passed (Ok x) stop h p = cc
