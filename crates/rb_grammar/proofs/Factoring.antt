-- A parser's steps where one token doesn't decide: two forms that go on alike are read together. And its steps over forms that
-- are no rule of their own.
use Rattle.std.proofs.Common.{◌≡◌, ℕ, zero, suc, true, false, List, [], ◌∷◌, ◌++◌, sym, subst, append_assoc, arith, inl, inr}
use Rattle.rb_grammar.specs.Forms.{Form, ◌or◌, ◌then◌, Grammar}
use Rattle.rb_grammar.specs.Readings.{Upto, behind_next, Reads, first, second, both, Same, Stops}
use Rattle.rb_grammar.specs.Firsts.{Table, IsTableOf}
use Rattle.rb_grammar.proofs.Following.{◌⟫◌, read_or, read_both, same, same_first, same_second, stops_here}
use Rattle.rb_grammar.proofs.Barring.{Sight, Without, can, Holds, barred}
use Rattle.rb_grammar.proofs.Steps.{avoids, apart, parts, same_apart, same_parts, avoiding}

-- the first forms are put together
abbrev pub packed : {T N : Type 0} → ℕ → List (Form T N) → List (Form T N)
packed zero fs = fs
packed (suc n) [] = []
packed (suc n) (f ∷ []) = f ∷ []
packed (suc n) (f ∷ g ∷ fs) = packed n ((f then g) ∷ fs)

module _ {T N K : Type 0} {G : Grammar T N K} where
  -- the first form is taken apart
  pub splitting : {ms : List T} {f : Form T N} {fs : List (Form T N)} {ts : List K} → Same G ms (f ∷ fs) ts (apart f fs) ts
  splitting {ms = ms} {f = f} {fs = fs} {ts = ts} = same_apart G ms f fs ts

  pub packing : {ms : List T} {fs : List (Form T N)} {ts : List K} (n : ℕ) → Same G ms fs ts (packed n fs) ts
  packing {ms = ms} {fs = fs} {ts = ts} n = go n fs
    where
      one : (f h : Form T N) (fs : List (Form T N)) → Same G ms (f ∷ h ∷ fs) ts ((f then h) ∷ fs) ts
      one f h fs = record { there = λ g hs av ah r. both r; back = λ g hs r. read_both G r; on = omega arith }

      go : (n : ℕ) (fs : List (Form T N)) → Same G ms fs ts (packed n fs) ts
      go zero fs = same G ms fs ts
      go (suc n) [] = same G ms [] ts
      go (suc n) (f ∷ []) = same G ms (f ∷ []) ts
      go (suc n) (f ∷ g ∷ fs) = one f g fs ⟫ go n ((f then g) ∷ fs)

  -- Two forms of which the same is read leave two forms.
  pub either : {ms : List T} {f h k l : Form T N} {fs gs : List (Form T N)} {ts us : List K} → Same G ms (f ∷ fs) ts (k ∷ gs) us → Same G ms (h ∷ fs) ts (l ∷ gs) us
      → Same G ms ((f or h) ∷ fs) ts ((k or l) ∷ gs) us
  either p q = record {
    there = λ g hs av ah r. elim (read_or G r) [ inl x ↦ first (p.there g hs av ah x) | inr x ↦ second (q.there g hs av ah x) ];
    back = λ g hs r. elim (read_or G r) [ inl x ↦ first (p.back g hs x) | inr x ↦ second (q.back g hs x) ];
    on = p.on;
  }

  -- and stop where both do
  pub either_stops : {ms : List T} {f h : Form T N} {fs : List (Form T N)} {ts us : List K} → Stops G ms (f ∷ fs) ts us → Stops G ms (h ∷ fs) ts us → Stops G ms ((f or h) ∷ fs) ts us
  either_stops p q = record {
    begins = λ hs. first (p.begins hs);
    refuses = λ hs av r. elim (read_or G r) [ inl x ↦ p.refuses hs av x | inr x ↦ q.refuses hs av x ];
    on = p.on;
  }

module _ {T N K : Type 0} {G : Grammar T N K} {S : Table T N} (R : IsTableOf G S) where
  -- forms that another function reads
  pub reading : {ms ns : List T} {gs : List (Form T N)} {ts us : List K} (fs : List (Form T N)) → Same G ns gs ts [] us → avoids S ns ms fs ≡ true → Same G ms (gs ++ fs) ts (parts fs) us
  reading {ms = ms} {ns = ns} {gs = gs} {ts = ts} {us = us} fs p e = read ⟫ same_parts G ms fs us
    where
      read : Same G ms (gs ++ fs) ts fs us
      read = record {
        there = λ g hs av ah r. p.there g (fs ++ hs) (avoiding G S R ns ms fs e hs av) ah (subst (λ z. Reads G g z ts) (append_assoc gs fs hs) r);
        back = λ g hs r. subst (λ z. Reads G g z ts) (sym (append_assoc gs fs hs)) (p.back g (fs ++ hs) r);
        on = p.on;
      }

  pub reading_stops : {ms ns : List T} {gs : List (Form T N)} {ts us : List K} (fs : List (Form T N)) → Stops G ns gs ts us → avoids S ns ms fs ≡ true → Stops G ms (gs ++ fs) ts us
  reading_stops {ms = ms} {ns = ns} {gs = gs} {ts = ts} {us = us} fs p e = record {
    begins = λ hs. subst (λ z. Reads G (Upto us) z ts) (sym (append_assoc gs fs hs)) (p.begins (fs ++ hs));
    refuses = λ hs av r. p.refuses (fs ++ hs) (avoiding G S R ns ms fs e hs av) (subst (λ z. Reads G (behind_next us) z ts) (append_assoc gs fs hs) r);
    on = p.on;
  }

  -- no token is there that these forms go on with
  pub refusing : {ms : List T} {fs : List (Form T N)} {ts us : List K} (ns : List T) → us ≡ ts → Holds G S R (Without ns) ts → can S (Without ns) ms fs ≡ false → Stops G ms fs ts us
  refusing {ms = ms} {fs = fs} {ts = ts} ns l h e = subst (λ z. Stops G ms fs ts z) (sym l) (stops_here G ms fs ts (λ hs av. barred G S R (Without ns) ms fs hs ts h av e))

  -- a choice alone, where what was seen excludes the other form
  pub first_chosen : {ms : List T} {f h : Form T N} {fs : List (Form T N)} {ts : List K} (s : Sight T) → can S s ms (h ∷ fs) ≡ false → Holds G S R s ts → Same G ms ((f or h) ∷ fs) ts (f ∷ fs) ts
  first_chosen {ms = ms} {f = f} {h = h} {fs = fs} {ts = ts} s e k = same_first G ms f h fs ts (λ hs av. barred G S R s ms (h ∷ fs) hs ts k av e)

  pub second_chosen : {ms : List T} {f h : Form T N} {fs : List (Form T N)} {ts : List K} (s : Sight T) → can S s ms (f ∷ fs) ≡ false → Holds G S R s ts → Same G ms ((f or h) ∷ fs) ts (h ∷ fs) ts
  second_chosen {ms = ms} {f = f} {h = h} {fs = fs} {ts = ts} s e k = same_second G ms f h fs ts (λ hs av. barred G S R s ms (f ∷ fs) hs ts k av e)
