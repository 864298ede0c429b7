-- What a function returns as the last one that it calls left it.
use Rattle.std.proofs.Common.{◌≡◌, ◌<◌, ◌≤◌, Result, Ok, Err, IfOk, IfErr, OnOk, List, [], ◌∷◌, length, sym, ◌∙◌, arith}
use Rattle.rb_grammar.specs.declared.stop.Stop.{Stop}
use Rattle.rb_grammar.specs.declared.stop.Stop.TheVariants.{Syntax, NoMemory}
use Rattle.rb_grammar.specs.Forms.{Form, Grammar}
use Rattle.rb_grammar.specs.Readings.{Same}
use Rattle.rb_grammar.proofs.Following.{◌⟫◌}

pub then_reads : {T N K X : Type 0} {G : Grammar T N K} {ms : List T} {fs gs : List (Form T N)} {ts us : List K} (vs : List K) (r : Result X Stop) → Same G ms fs ts gs us → OnOk r (Same G ms gs us [] vs) → OnOk r (Same G ms fs ts [] vs)
then_reads vs (Ok x) p q = p ⟫ q
then_reads vs (Err e) p q = tt

pub then_shorter : {K X : Type 0} (ts us vs : List K) (r : Result X Stop) → length us ≤ length vs → OnOk r (length ts < length us) → OnOk r (length ts < length vs)
then_shorter ts us vs (Ok x) l h = omega (arith, l, h)
then_shorter ts us vs (Err e) l h = tt

pub if_ok : {X E : Type 0} {P Q : X → Type 0} (r : Result X E) → ((x : X) → P x → Q x) → IfOk r P → IfOk r Q
if_ok (Ok x) f h = f x h
if_ok (Err e) f h = h

pub on_ok : {X E P Q : Type 0} (r : Result X E) → (P → Q) → OnOk r P → OnOk r Q
on_ok (Ok x) f h = f h
on_ok (Err e) f h = h

pub in_any_case : {X P : Type 0} (r : Result X Stop) → P → OnOk r P
in_any_case (Ok x) h = h
in_any_case (Err e) h = tt

pub no_syntax : {X : Type 0} (r : Result X Stop) → IfErr r (λ stop. stop ≡ NoMemory) → r ≡ Err Syntax → ⊥
no_syntax (Ok x) h e = cc
no_syntax (Err stop) h e = let f : stop ≡ Syntax = cc in let g : NoMemory ≡ Syntax = sym h ∙ f in cc
