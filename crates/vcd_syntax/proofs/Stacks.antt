-- The states are the grammar's: what is to be read at each, and that the exits are all that may come.
use Rattle.std.specs.List.{AllByRecursion, list_all}
use Rattle.std.proofs.Common.{◌≡◌, ℕ, zero, suc, ◌<◌, Bool, true, false, not, cond, ltb, ◌||◌, Option, Some, None, List, [], ◌∷◌, ◌++◌, length, refl, ap, sym, ◌∙◌, subst, arith, eqb-true, append-nil}
use Rattle.std.specs.Prelude.{is_some, option_and_then}
use borrow.Author.Tests.{ltb-true}
use Rattle.std.proofs.lemmas.List.{append_cancel_right}
use Rattle.std.proofs.lemmas.Bool.{and_parts, not-true}
use Rattle.rb_grammar.specs.Forms.{Tok, Non, Fits, Begins}
use Rattle.rb_grammar.specs.Readings.{Whole, Upto, Reads, whole, reached, no_turn, Same}
use Rattle.rb_grammar.specs.Firsts.{Table, tells, IsTableOf}
use Rattle.rb_grammar.proofs.Barring.{Here, Without, can, AreOff, barred, by_terminal}
use Rattle.rb_grammar.proofs.Following.{◌⟫◌}
use Rattle.rb_grammar.proofs.Steps.{opened, parts, apart, entering, staying, taking}
use Rattle.rb_grammar.proofs.Bridge.{avoids_nothing, reads_begin, reads_fit, fits_begins, begun, begins_one, fits_one}
use Rattle.vcd_syntax.specs.declared.kind.Kind.{Kind}
use Rattle.vcd_syntax.specs.declared.kind.Kind.TheVariants.{Heading, Said, End, Scope, ScopeKind, ScopeName, Upscope, Var, NetKind, Width, Code, Name, Range, EndDefinitions, Time, Scalar, Bits, Taker, DumpVars, Comment}
use Rattle.vcd_syntax.specs.Grammar.{number, same, Rule, Dump, Part, rule, grammar}
use Rattle.vcd_syntax.specs.declared.state.State.{State}
use Rattle.vcd_syntax.specs.declared.state.State.TheVariants as state
use Rattle.vcd_syntax.specs.Exits.{exits, leads, after, after_all}

-- all kinds, by their numbers
abbrev pub all_kinds : List Kind
all_kinds = Heading ∷ Said ∷ End ∷ Scope ∷ ScopeKind ∷ ScopeName ∷ Upscope ∷ Var ∷ NetKind ∷ Width ∷ Code ∷ Name ∷ Range ∷ EndDefinitions ∷ Time ∷ Scalar ∷ Bits ∷ Taker ∷ DumpVars ∷ Comment ∷ []

abbrev kind_at : List Kind → ℕ → Kind
kind_at [] n = Comment
kind_at (k ∷ ks) zero = k
kind_at (k ∷ ks) (suc n) = kind_at ks n

numbered : (k : Kind) → kind_at all_kinds (number k) ≡ k
numbered Heading = refl
numbered Said = refl
numbered End = refl
numbered Scope = refl
numbered ScopeKind = refl
numbered ScopeName = refl
numbered Upscope = refl
numbered Var = refl
numbered NetKind = refl
numbered Width = refl
numbered Code = refl
numbered Name = refl
numbered Range = refl
numbered EndDefinitions = refl
numbered Time = refl
numbered Scalar = refl
numbered Bits = refl
numbered Taker = refl
numbered DumpVars = refl
numbered Comment = refl

pub same_exact : (a b : Kind) → same a b ≡ true → a ≡ b
same_exact a b e = sym (numbered a) ∙ (ap (kind_at all_kinds) (eqb-true (number a) (number b) e) ∙ numbered b)

pub same_alike : (a : Kind) → same a a ≡ true
same_alike Heading = refl
same_alike Said = refl
same_alike End = refl
same_alike Scope = refl
same_alike ScopeKind = refl
same_alike ScopeName = refl
same_alike Upscope = refl
same_alike Var = refl
same_alike NetKind = refl
same_alike Width = refl
same_alike Code = refl
same_alike Name = refl
same_alike Range = refl
same_alike EndDefinitions = refl
same_alike Time = refl
same_alike Scalar = refl
same_alike Bits = refl
same_alike Taker = refl
same_alike DumpVars = refl
same_alike Comment = refl

abbrev table : Table Kind Rule
table = record { first = λ x. Heading ∷ Scope ∷ []; empty = λ x. false; same = same; apart = λ a b. not (same a b) }

each : (x : Rule) → tells table x (rule x) ≡ true
each Dump = refl

right : IsTableOf grammar table
right = by_terminal grammar table (λ k. k) (λ a t. refl) (λ a b. refl) same_exact same_alike each

-- what is left to be read behind a word of a kind
abbrev rest : List Part → List Part
rest [] = []
rest (f ∷ fs) = fs

abbrev behind : Kind → List Part → List Part
behind k fs = parts (rest (opened table 32 (Here k) all_kinds fs))

-- what is to be read at each state
abbrev front : List Part
front = apart (rule Dump) []

abbrev variables : List Part
variables = behind End (behind ScopeName (behind ScopeKind (behind Scope front)))

abbrev range : List Part
range = behind Name (behind Code (behind Width (behind NetKind (behind Var variables))))

abbrev back : List Part
back = behind End (behind Upscope variables)

abbrev entries : List Part
entries = behind End (behind EndDefinitions back)

abbrev pub stack : State → List Part
stack state.Front = front
stack state.FrontSaid = behind Heading front
stack state.ScopeKind = behind Scope front
stack state.ScopeName = behind ScopeKind (behind Scope front)
stack state.ScopeEnd = behind ScopeName (behind ScopeKind (behind Scope front))
stack state.Variables = variables
stack state.VariablesSaid = behind Heading variables
stack state.NetKind = behind Var variables
stack state.Width = behind NetKind (behind Var variables)
stack state.Code = behind Width (behind NetKind (behind Var variables))
stack state.Name = behind Code (behind Width (behind NetKind (behind Var variables)))
stack state.Range = range
stack state.VarEnd = behind Range range
stack state.UpscopeEnd = behind Upscope variables
stack state.Back = back
stack state.BackSaid = behind Heading back
stack state.DefinitionsEnd = behind EndDefinitions back
stack state.Entries = entries
stack state.Taker = behind Bits entries
stack state.Dump = behind DumpVars entries
stack state.DumpTaker = behind Bits (behind DumpVars entries)
stack state.Commented = behind Comment entries

-- to read on behind a word is to read what stands behind its exit
abbrev Follows : State → Kind × State → Type 0
Follows s x = (ks : List Kind) → Same grammar all_kinds (stack s) (x.0 ∷ ks) (stack x.1) ks

goes : (a : Kind) (fs gs : List Part) → opened table 32 (Here a) all_kinds fs ≡ Tok a ∷ gs → (ks : List Kind) → Same grammar all_kinds fs (a ∷ ks) (parts gs) ks
goes a fs gs e ks = taking right (record { list = refl; token = same_alike a }) e

follows : (s : State) → AllByRecursion (Follows s) (exits s)
follows state.Front = (goes Heading _ _ refl, (goes Scope _ _ refl, tt))
follows state.FrontSaid = (goes End _ _ refl, (goes Said _ _ refl, tt))
follows state.ScopeKind = (goes ScopeKind _ _ refl, tt)
follows state.ScopeName = (goes ScopeName _ _ refl, tt)
follows state.ScopeEnd = (goes End _ _ refl, tt)
follows state.Variables = (goes Heading _ _ refl, (goes Var _ _ refl, (goes Upscope _ _ refl, tt)))
follows state.VariablesSaid = (goes End _ _ refl, (goes Said _ _ refl, tt))
follows state.NetKind = (goes NetKind _ _ refl, tt)
follows state.Width = (goes Width _ _ refl, tt)
follows state.Code = (goes Code _ _ refl, tt)
follows state.Name = (goes Name _ _ refl, tt)
follows state.Range = (goes Range _ _ refl, (goes End _ _ refl, tt))
follows state.VarEnd = (goes End _ _ refl, tt)
follows state.UpscopeEnd = (goes End _ _ refl, tt)
follows state.Back = (goes Heading _ _ refl, (goes EndDefinitions _ _ refl, tt))
follows state.BackSaid = (goes End _ _ refl, (goes Said _ _ refl, tt))
follows state.DefinitionsEnd = (goes End _ _ refl, tt)
follows state.Entries = (goes Scalar _ _ refl, (goes Bits _ _ refl, (goes Time _ _ refl, (goes DumpVars _ _ refl, (goes Comment _ _ refl, tt)))))
follows state.Taker = (goes Taker _ _ refl, tt)
follows state.Dump = (goes Scalar _ _ refl, (goes Bits _ _ refl, (goes End _ _ refl, tt)))
follows state.DumpTaker = (goes Taker _ _ refl, tt)
follows state.Commented = (goes End _ _ refl, (goes Said _ _ refl, tt))

-- at a state a kind leads on, or nothing goes on with it
abbrev decides : State → Kind → Bool
decides s k = is_some (after s k) || not (can table (Here k) all_kinds (stack s))

decided : (s : State) → list_all (decides s) all_kinds ≡ true
decided state.Front = refl
decided state.FrontSaid = refl
decided state.ScopeKind = refl
decided state.ScopeName = refl
decided state.ScopeEnd = refl
decided state.Variables = refl
decided state.VariablesSaid = refl
decided state.NetKind = refl
decided state.Width = refl
decided state.Code = refl
decided state.Name = refl
decided state.Range = refl
decided state.VarEnd = refl
decided state.UpscopeEnd = refl
decided state.Back = refl
decided state.BackSaid = refl
decided state.DefinitionsEnd = refl
decided state.Entries = refl
decided state.Taker = refl
decided state.Dump = refl
decided state.DumpTaker = refl
decided state.Commented = refl

-- The text may end at one state alone.
abbrev pub ends : State → Bool
ends state.Entries = true
ends _ = false

closed : (s : State) → can table (Without all_kinds) all_kinds (stack s) ≡ ends s
closed state.Front = refl
closed state.FrontSaid = refl
closed state.ScopeKind = refl
closed state.ScopeName = refl
closed state.ScopeEnd = refl
closed state.Variables = refl
closed state.VariablesSaid = refl
closed state.NetKind = refl
closed state.Width = refl
closed state.Code = refl
closed state.Name = refl
closed state.Range = refl
closed state.VarEnd = refl
closed state.UpscopeEnd = refl
closed state.Back = refl
closed state.BackSaid = refl
closed state.DefinitionsEnd = refl
closed state.Entries = refl
closed state.Taker = refl
closed state.Dump = refl
closed state.DumpTaker = refl
closed state.Commented = refl

-- What all kinds have, each kind has.
numbered_below : (k : Kind) → ltb (number k) 20 ≡ true
numbered_below Heading = refl
numbered_below Said = refl
numbered_below End = refl
numbered_below Scope = refl
numbered_below ScopeKind = refl
numbered_below ScopeName = refl
numbered_below Upscope = refl
numbered_below Var = refl
numbered_below NetKind = refl
numbered_below Width = refl
numbered_below Code = refl
numbered_below Name = refl
numbered_below Range = refl
numbered_below EndDefinitions = refl
numbered_below Time = refl
numbered_below Scalar = refl
numbered_below Bits = refl
numbered_below Taker = refl
numbered_below DumpVars = refl
numbered_below Comment = refl

holds_at : (p : Kind → Bool) (ks : List Kind) (n : ℕ) → list_all p ks ≡ true → n < length ks → p (kind_at ks n) ≡ true
holds_at p [] n e l = absurd (omega arith)
holds_at p (k ∷ ks) zero e l = (and_parts (p k) (list_all p ks) e).0
holds_at p (k ∷ ks) (suc n) e l = holds_at p ks n (and_parts (p k) (list_all p ks) e).1 (omega (arith, l))

pub each_kind : (p : Kind → Bool) → list_all p all_kinds ≡ true → (k : Kind) → p k ≡ true
each_kind p e k = subst (λ z. p z ≡ true) (numbered k) (holds_at p all_kinds (number k) e (ltb-true (number k) 20 (numbered_below k)))

-- The steps.
found_at : (P : Kind × State → Type 0) (x : Kind × State) (k : Kind) (t : State) (more : Option State) (b : Bool) → same x.0 k ≡ b → P x → (more ≡ Some t → P (k, t)) → cond b (Some x.1) more ≡ Some t → P (k, t)
found_at P x k t more true s h f e =
    let one : x.0 ≡ k = same_exact x.0 k s in
    let two : x.1 ≡ t = cc in
    subst (λ z. P (z, t)) one (subst (λ z. P (x.0, z)) two h)
found_at P x k t more false s h f e = f e

pub found : (P : Kind × State → Type 0) (xs : List (Kind × State)) (k : Kind) (t : State) → leads xs k ≡ Some t → AllByRecursion P xs → P (k, t)
found P [] k t e a = cc
found P (x ∷ xs) k t e a = found_at P x k t (leads xs k) (same x.0 k) refl a.0 (λ f. found P xs k t f a.1) e

pub step : (s : State) (k : Kind) (t : State) → after s k ≡ Some t → (ks : List Kind) → Same grammar all_kinds (stack s) (k ∷ ks) (stack t) ks
step s k t e = found (Follows s) (exits s) k t e (follows s)

no_step : (s : State) (k : Kind) → after s k ≡ None → can table (Here k) all_kinds (stack s) ≡ false
no_step s k e = not-true (can table (Here k) all_kinds (stack s)) (subst (λ o. (is_some o || not (can table (Here k) all_kinds (stack s))) ≡ true) e (each_kind (decides s) (decided s) k))

-- Kinds that lead from state to state.
along_at : (s : State) (k : Kind) (ks : List Kind) (t : State) (us : List Kind) (o : Option State) → after s k ≡ o
    → ((z : State) → after_all z ks ≡ Some t → Same grammar all_kinds (stack z) (ks ++ us) (stack t) us)
    → option_and_then (λ z. after_all z ks) o ≡ Some t → Same grammar all_kinds (stack s) (k ∷ ks ++ us) (stack t) us
along_at s k ks t us None f h g = cc
along_at s k ks t us (Some z) f h g = step s k z f (ks ++ us) ⟫ h z g

pub along : (ks : List Kind) (s t : State) → after_all s ks ≡ Some t → (us : List Kind) → Same grammar all_kinds (stack s) (ks ++ us) (stack t) us
along [] s t e us = let one : s ≡ t = cc in subst (λ z. Same grammar all_kinds (stack s) us (stack z) us) one (staying refl)
along (k ∷ ks) s t e us = along_at s k ks t us (after s k) refl (λ z f. along ks z t f us) e

-- Where they lead nowhere, nothing is read of them all.
stuck_at : (s : State) (k : Kind) (ks : List Kind) (o : Option State) → after s k ≡ o → ((z : State) → after_all z ks ≡ None → Reads grammar (Upto []) (stack z ++ []) ks → ⊥)
    → option_and_then (λ z. after_all z ks) o ≡ None → Reads grammar (Upto []) (stack s ++ []) (k ∷ ks) → ⊥
stuck_at s k ks None f h g r =
    let e : k ∷ ks ≡ [] = barred grammar table right (Here k) all_kinds (stack s) [] (k ∷ ks) (same_alike k) (avoids_nothing grammar all_kinds) (no_step s k f) (Upto []) r in cc
stuck_at s k ks (Some z) f h g r = h z g ((step s k z f ks).there (Upto []) [] (avoids_nothing grammar all_kinds) (omega arith) r)

stuck : (ks : List Kind) (s : State) → after_all s ks ≡ None → Reads grammar (Upto []) (stack s ++ []) ks → ⊥
stuck [] s e r = cc
stuck (k ∷ ks) s e r = stuck_at s k ks (after s k) refl (λ z f q. stuck ks z f q) e r

-- From the front.
opens : (ks : List Kind) → Same grammar all_kinds (Non Dump ∷ []) ks (stack state.Front) ks
opens ks = entering

begins_at : (ks : List Kind) → Reads grammar (Upto []) (Non Dump ∷ []) ks → (o : Option State) → after_all state.Front ks ≡ o → (t : State) × (after_all state.Front ks ≡ Some t)
begins_at ks r (Some t) e = (t, e)
begins_at ks r None e = absurd (stuck ks state.Front e ((opens ks).there (Upto []) [] (avoids_nothing grammar all_kinds) (omega arith) r))

-- Kinds that begin a dump lead somewhere, and the other way round.
pub begins_leads : (ks : List Kind) → Begins grammar (Non Dump) ks → (t : State) × (after_all state.Front ks ≡ Some t)
begins_leads ks b = begins_at ks (subst (λ z. Reads grammar (Upto []) (Non Dump ∷ []) z) (append-nil ks) (reads_begin grammar b [] [])) (after_all state.Front ks) refl

reads_all : (ks : List Kind) (t : State) → after_all state.Front ks ≡ Some t → Same grammar all_kinds (Non Dump ∷ []) (ks ++ []) (stack t) []
reads_all ks t e = opens (ks ++ []) ⟫ along ks state.Front t e []

pub leads_begin : (ks : List Kind) (t : State) → after_all state.Front ks ≡ Some t → Begins grammar (Non Dump) ks
leads_begin ks t e =
    let r = (reads_all ks t e).back (Upto []) [] (reached refl) in
    let h = begun grammar r [] refl in
    subst (λ z. Begins grammar (Non Dump) z) (sym (append_cancel_right ks h.0 [] h.1)) (begins_one grammar (Non Dump) h.0 h.2)

-- They are a dump exactly where they lead to the entries.
ended : (t : State) → (ends t ≡ false → ⊥) → t ≡ state.Entries
ended state.Entries h = refl
ended state.Front h = absurd (h refl)
ended state.FrontSaid h = absurd (h refl)
ended state.ScopeKind h = absurd (h refl)
ended state.ScopeName h = absurd (h refl)
ended state.ScopeEnd h = absurd (h refl)
ended state.Variables h = absurd (h refl)
ended state.VariablesSaid h = absurd (h refl)
ended state.NetKind h = absurd (h refl)
ended state.Width h = absurd (h refl)
ended state.Code h = absurd (h refl)
ended state.Name h = absurd (h refl)
ended state.Range h = absurd (h refl)
ended state.VarEnd h = absurd (h refl)
ended state.UpscopeEnd h = absurd (h refl)
ended state.Back h = absurd (h refl)
ended state.BackSaid h = absurd (h refl)
ended state.DefinitionsEnd h = absurd (h refl)
ended state.Taker h = absurd (h refl)
ended state.Dump h = absurd (h refl)
ended state.DumpTaker h = absurd (h refl)
ended state.Commented h = absurd (h refl)

none_off : (ms : List Kind) → AreOff grammar table right ms []
none_off [] = tt
none_off (m ∷ ms) = (refl, none_off ms)

no_end : (t : State) → Reads grammar Whole (stack t ++ []) [] → ends t ≡ false → ⊥
no_end t r e = barred grammar table right (Without all_kinds) all_kinds (stack t) [] [] (none_off all_kinds) (avoids_nothing grammar all_kinds) (closed t ∙ e) Whole r

pub fits_leads : (ks : List Kind) → Fits grammar (Non Dump) ks → after_all state.Front ks ≡ Some state.Entries
fits_leads ks f =
    let q = begins_leads ks (fits_begins grammar f) in
    let r : Reads grammar Whole (Non Dump ∷ []) (ks ++ []) = reads_fit grammar f Whole [] [] whole in
    let left = (reads_all ks q.0 q.1).there Whole [] (avoids_nothing grammar all_kinds) tt r in
    q.1 ∙ ap Some (ended q.0 (no_end q.0 left))

pub leads_fit : (ks : List Kind) → after_all state.Front ks ≡ Some state.Entries → Fits grammar (Non Dump) ks
leads_fit ks e =
    let r = (reads_all ks state.Entries e).back Whole [] (no_turn whole) in
    fits_one grammar (Non Dump) ks (subst (λ z. Reads grammar Whole (Non Dump ∷ []) z) (append-nil ks) r)
