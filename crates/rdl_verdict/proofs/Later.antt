-- What is answered, by what the steps answer.
use Rattle.std.proofs.Common.{◌≡◌, ◌≢◌, ◌∙◌, inl, inr, ℕ, List, [], ◌∷◌, Option, Some, Result, Ok, Err, IfErr, IsErrAnd, Contains, refl, sym, ap, subst}
use Rattle.rdl_base.specs.declared.fault.Fault.{Fault}
use Rattle.rb_model.specs.declared.block.Block.{Block}
use Rattle.rdl_tree.specs.declared.node.Elab.{Elab}
use Rattle.rdl_tree.specs.declared.item.Source.{Source}
use Rattle.rdl_values.specs.Elaborated.{HasWords, nodes_of, top_name}
use Rattle.rdl_values.specs.Elaboration.{Elaborates, IsClean}
use Rattle.rdl_values.specs.Phase3.{fails3}
use Rattle.rdl_values.specs.Top.{top_use_of}
use Rattle.rdl_parser.specs.Verdicts.{HasError, Reads}
use Rattle.rdl_parser.specs.declared.error.ParseError.{ParseError}
use Rattle.rdl_parser.specs.declared.error.ParseError.TheVariants as parse
use Rattle.rdl_tree.specs.InOrder.{IsInOrder}
use Rattle.rdl_layers.specs.Answers.{IsSettled}
use Rattle.rdl_addr.specs.Answers.{IsPlaced}
use Rattle.rdl_refs.specs.Answers.{IsBound}
use Rattle.rdl_check.specs.Trees.{HaveOneForm}
use Rattle.rdl_rules.specs.Answers.{meaning_fails}
use Rattle.rdl_rules.specs.Numbers.{all_fields}
use Rattle.rdl_rules.specs.declared.settled.Settled.{Settled}
use Rattle.rdl_encodings.specs.Encoded.{encodings_of}
use Rattle.rdl_verdict.specs.Answers.{Decides, IsJudged, Judges, Refuses}
use Rattle.rdl_verdict.specs.Steps.{FailsLate, HasAll, HasOne, IsClear, IsFaultless, IsGrown}
use Rattle.rdl_verdict.specs.Verdict.{IsVerdict, tree}
use Rattle.rdl_verdict.specs.declared.error.JudgeError.{JudgeError}
use Rattle.rdl_verdict.specs.declared.error.JudgeError.TheVariants as error
use Rattle.rdl_verdict.specs.declared.judging.Judged.{Judged}
use Rattle.rdl_verdict.proofs.Parts.{first-in, second-alone, some}
use Rattle.rdl_verdict.proofs.Same.{later, same-block, same-nodes}

-- one failure
pub only : (wanted : Option (List ℕ)) (text : List ℕ) (fault : Fault) → IsVerdict wanted text (fault ∷ []) → (err : JudgeError) → HasOne fault err → Refuses wanted text err
only wanted text fault v (error.Faults list) e = record { verdict = subst (IsVerdict wanted text) (sym e) v; some = some fault list.items (subst (λ l. Contains l fault) (sym e) (first-in fault [])) }
only wanted text fault v error.NoMemory e = tt

-- the meaning
pub late6 : (e : Elab) (err : JudgeError) → IsSettled e → IsPlaced e → IsBound e → HasAll (meaning_fails e) err → FailsLate e err
late6 e (error.Faults list) s p t h = record { first = inr (s, inr (second-alone e [] p t, inl (h.failures, h.some))); some = h.some }
late6 e error.NoMemory s p t h = tt

-- instances
pub refused3 : (wanted : Option (List ℕ)) (text : List ℕ) (s : Source) → Reads text s.items.now → (err : JudgeError) → HasAll (fails3 wanted s) err → Refuses wanted text err
refused3 wanted text s reads (error.Faults list) h = record { verdict = tree s reads (inl (h.failures, h.some)); some = h.some }
refused3 wanted text s reads error.NoMemory h = tt

-- a later phase
pub refused-own : (wanted : Option (List ℕ)) (text : List ℕ) (e : Elab) → Reads text e.source.now.items.now → Elaborates wanted e.source.now e → top_use_of wanted e.source.now ≡ top_use_of (Some (top_name e)) e.source.now → (err : JudgeError) → FailsLate e err → Refuses wanted text err
refused-own wanted text e reads h same (error.Faults list) late = record { verdict = tree e.source.now reads (inr (h.clean, later wanted (Some (top_name e)) e.source.now same list.items late.first)); some = late.some }
refused-own wanted text e reads h same error.NoMemory late = tt

-- none
pub faultless-own : (wanted : Option (List ℕ)) (text : List ℕ) (e : Elab) → IsGrown wanted text e → IsFaultless e → IsVerdict wanted text []
faultless-own wanted text e g x = tree e.source.now g.reads (inr (g.tree.clean, later wanted (Some (top_name e)) e.source.now g.top [] (inr (x.settled, inr (second-alone e [] x.placed x.bound, inr (x.none, refl))))))

pub judged-own : (wanted : Option (List ℕ)) (text : List ℕ) (e : Elab) (known : Settled) (b : Block) → known.props ≡ e → known.encodings ≡ encodings_of (all_fields (nodes_of e)) → Reads text e.source.now.items.now → Elaborates wanted e.source.now e → top_use_of wanted e.source.now ≡ top_use_of (Some (top_name e)) e.source.now → IsClean e → IsClear e b → IsJudged wanted text (record { elab = e; settled = known; block = b })
judged-own wanted text e known b of encoded reads h same clean x = record {
  clean = clean;
  props = of;
  tree = h;
  encodings = encoded ∙ ap (λ ns. encodings_of (all_fields ns)) (sym (same-nodes wanted (Some (top_name e)) e.source.now same));
  described = record {
    reads = reads;
    clean = inr (h.clean, later wanted (Some (top_name e)) e.source.now same [] (inr (x.settled, inr (second-alone e [] x.placed x.bound, inr (x.block.clean, refl)))));
    block = same-block wanted (Some (top_name e)) e.source.now same 0 b x.block.block;
    sound = x.block.sound;
    apart = x.apart;
  };
}

-- The tree is of the source that was read.

module _ (wanted : Option (List ℕ)) (text : List ℕ) (s : Source) (e : Elab) (h : Elaborates wanted s e) where
  pub here : s ≡ e.source.now
  here = sym h.tree.source

  pub grown : Reads text s.items.now → top_use_of wanted s ≡ top_use_of (Some (top_name e)) s → Elaborates (Some (top_name e)) s e → IsInOrder s.items.now → HasWords (Some (top_name e)) e.source.now → HaveOneForm e → IsGrown wanted text e
  grown reads same own order words forms = record {
    reads = subst (λ x. Reads text x.items.now) here reads;
    tree = subst (λ x. Elaborates wanted x e) here h;
    top = subst (λ x. top_use_of wanted x ≡ top_use_of (Some (top_name e)) x) here same;
    clean = record {
      elaborated = subst (λ x. Elaborates (Some (top_name e)) x e) here own;
      in_order = subst (λ x. IsInOrder x.items.now) here order;
    };
    words = words;
    forms = forms;
  }

-- An error passed on says what it said.

pub passed-on : (wanted : Option (List ℕ)) (text : List ℕ) (r : Result Judged JudgeError) (err : JudgeError) → IsErrAnd r (λ x. x ≡ err) → Refuses wanted text err → Judges wanted text r
passed-on wanted text (Err x) err is h = subst (Refuses wanted text) (sym is) h
passed-on wanted text (Ok j) err is h = absurd is

pub decided-on : {A : Type 0} (wanted : Option (List ℕ)) (text : List ℕ) (r : Result A JudgeError) (err : JudgeError) → IsErrAnd r (λ x. x ≡ err) → Refuses wanted text err → Decides wanted text r
decided-on wanted text (Err x) err is h = subst (Refuses wanted text) (sym is) h
decided-on wanted text (Ok y) err is h = absurd is

pub error-on : {A : Type 0} (wanted : Option (List ℕ)) (text : List ℕ) (r : Result A JudgeError) (err : JudgeError) → IsErrAnd r (λ x. x ≡ err) → Refuses wanted text err → IfErr r (Refuses wanted text)
error-on wanted text (Err x) err is h = subst (Refuses wanted text) (sym is) h
error-on wanted text (Ok y) err is h = tt

pub late-on : {A : Type 0} (e : Elab) (r : Result A JudgeError) (err : JudgeError) → IsErrAnd r (λ x. x ≡ err) → FailsLate e err → IfErr r (FailsLate e)
late-on e (Err x) err is h = subst (FailsLate e) (sym is) h
late-on e (Ok j) err is h = tt

-- An error of the tokens that is not want of memory.

abbrev IsHeard : ParseError → Type 0
IsHeard parse.NoMemory = ⊥
IsHeard _ = Unit {0}

pub heard : (text : List ℕ) (x y : ParseError) → x ≡ y → IsHeard y → (x ≢ parse.NoMemory → HasError text x) → HasError text y
heard text x y is some h = subst (HasError text) is (h (λ n. subst IsHeard (sym is ∙ n) some))
