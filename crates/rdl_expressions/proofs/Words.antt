-- Words of one sort: what they are in the grammar, and that none is there.
use Rattle.std.proofs.Common.{◌≡◌, true, Some, List, [], ◌∷◌, refl, ap}
use Rattle.rdl_base.specs.declared.keyword.Keyword.{Keyword}
use Rattle.rdl_base.specs.declared.keyword.Keyword.TheVariants as words
use Rattle.rb_grammar.specs.Forms.{Tok, Non, Opt}
use Rattle.rb_grammar.specs.Readings.{at, Same}
use Rattle.rb_grammar.proofs.Following.{◌⟫◌}
use Rattle.rb_grammar.proofs.Barring.{Here, AreOff}
use Rattle.rb_grammar.proofs.Steps.{entering, opening, taking, seen}
use Rattle.rdl_tree.specs.declared.item.PType.{PType}
use Rattle.rdl_tree.specs.declared.item.PType.TheVariants as type_kinds
use Rattle.rdl_tree.specs.declared.token.Mark.TheVariants as marks
use Rattle.rdl_tree.specs.declared.token.Token.{Token}
use Rattle.rdl_tree.specs.declared.token.Terminal.{Terminal}
use Rattle.rdl_tree.specs.declared.token.Terminal.TheVariants as terminals
use Rattle.rdl_tree.specs.Grammar.{Rule, grammar, mark}
use Rattle.rdl_tree.specs.Grammar as rules
use Rattle.rdl_tree.specs.Tree.{IsWord, type_of}
use Rattle.rdl_expressions.specs.declared.parser.Sort.TheVariants as sorts
use Rattle.rdl_expressions.specs.Following.{has, LacksWords, prop_words, value_words, types, triggers, kinds, after_type, after_expr}
use Rattle.rdl_expressions.proofs.Firsts.{table, right}

pub prop_word : {t : Token} {ts us : List Token} (k : Keyword) → has sorts.Prop k ≡ true → IsWord k ts t us → Same grammar [] (Non rules.Prop ∷ []) ts [] us
prop_word words.Woset e i = entering ⟫ taking right i refl
prop_word words.Woclr e i = entering ⟫ taking right i refl
prop_word words.Rclr e i = entering ⟫ taking right i refl
prop_word words.Rset e i = entering ⟫ taking right i refl
prop_word _ e i = cc

pub no_prop : {ts us : List Token} → LacksWords sorts.Prop ts us → AreOff grammar table right prop_words ts
no_prop h = (h.words words.Woset refl, (h.words words.Woclr refl, (h.words words.Rclr refl, (h.words words.Rset refl, tt))))

pub no_type : {ts us : List Token} → LacksWords sorts.Type ts us → AreOff grammar table right types ts
no_type h = (h.words words.Longint refl, (h.words words.Bit refl, (h.words words.Boolean refl, (h.words words.String refl, tt))))

pub no_trigger : {ts us : List Token} → LacksWords sorts.Trigger ts us → AreOff grammar table right triggers ts
no_trigger h = (h.words words.Posedge refl, (h.words words.Negedge refl, (h.words words.Bothedge refl, (h.words words.Level refl, (h.words words.Nonsticky refl, tt)))))

pub no_kind : {ts us : List Token} → LacksWords sorts.Kind ts us → AreOff grammar table right kinds ts
no_kind h = (h.words words.Addrmap refl, (h.words words.Regfile refl, (h.words words.Reg refl, (h.words words.Field refl, (h.words words.Signal refl, tt)))))

pub no_value : {ts us : List Token} → LacksWords sorts.Value ts us → AreOff grammar table right value_words ts
no_value h = (h.words words.Rw refl, (h.words words.Wr refl, (h.words words.R refl, (h.words words.W refl, (h.words words.Rw1 refl, (h.words words.W1 refl, (h.words words.Na refl, (h.words words.Woset refl, (h.words words.Woclr refl, (h.words words.Wot refl, (h.words words.Wzs refl, (h.words words.Wzc refl, (h.words words.Wzt refl, (h.words words.Wclr refl, (h.words words.Wset refl, (h.words words.Rclr refl, (h.words words.Rset refl, (h.words words.Compact refl, (h.words words.Regalign refl, (h.words words.Fullalign refl, tt))))))))))))))))))))

-- at the end no token is there
pub no_token : (ns : List Terminal) (ts : List Token) → ts ≡ [] → AreOff grammar table right ns ts
no_token [] ts e = tt
no_token (n ∷ ns) ts e = (ap (λ z. at grammar n z) e, no_token ns ts e)

pub number_type : {t : Token} {ts us : List Token} (k : Keyword) → type_of k ≡ Some type_kinds.Number → IsWord k ts t us
    → Same grammar after_type (Non rules.ParamType ∷ []) ts (Opt (Tok (terminals.Reserved words.Unsigned)) ∷ []) us
number_type words.Longint e i = entering ⟫ taking right i refl
number_type words.Bit e i = entering ⟫ taking right i refl
number_type _ e i = cc

pub other_type : {t : Token} {ts us : List Token} (k : Keyword) (p : PType) → type_of k ≡ Some p → (p ≡ type_kinds.Number → ⊥) → IsWord k ts t us → Same grammar after_type (Non rules.ParamType ∷ []) ts [] us
other_type words.Longint p e n i = absurd (n (cc))
other_type words.Bit p e n i = absurd (n (cc))
other_type words.Boolean p e n i = entering ⟫ taking right i refl
other_type words.String p e n i = entering ⟫ taking right i refl
other_type _ p e n i = cc

pub given_word : {t : Token} {ts us : List Token} (k : Keyword) → has sorts.Value k ≡ true → IsWord k ts t us → Same grammar after_expr (Non rules.Given ∷ []) ts [] us
given_word words.Rw e i = entering ⟫ taking right i refl
given_word words.Wr e i = entering ⟫ taking right i refl
given_word words.R e i = entering ⟫ taking right i refl
given_word words.W e i = entering ⟫ taking right i refl
given_word words.Rw1 e i = entering ⟫ taking right i refl
given_word words.W1 e i = entering ⟫ taking right i refl
given_word words.Na e i = entering ⟫ taking right i refl
given_word words.Woset e i = entering ⟫ taking right i refl
given_word words.Woclr e i = entering ⟫ taking right i refl
given_word words.Wot e i = entering ⟫ taking right i refl
given_word words.Wzs e i = entering ⟫ taking right i refl
given_word words.Wzc e i = entering ⟫ taking right i refl
given_word words.Wzt e i = entering ⟫ taking right i refl
given_word words.Wclr e i = entering ⟫ taking right i refl
given_word words.Wset e i = entering ⟫ taking right i refl
given_word words.Rclr e i = entering ⟫ taking right i refl
given_word words.Rset e i = entering ⟫ taking right i refl
given_word words.Compact e i = entering ⟫ taking right i refl
given_word words.Regalign e i = entering ⟫ taking right i refl
given_word words.Fullalign e i = entering ⟫ taking right i refl
given_word _ e i = cc

pub trigger_step : {t : Token} {ts us : List Token} (k : Keyword) → has sorts.Trigger k ≡ true → IsWord k ts t us
    → Same grammar [] (Non rules.Local ∷ []) ts (Non rules.Prop ∷ mark marks.Semicolon ∷ []) us
trigger_step words.Posedge e i = entering ⟫ opening right (Here (terminals.Reserved words.Posedge)) refl (seen i) ⟫ entering ⟫ taking right i refl
trigger_step words.Negedge e i = entering ⟫ opening right (Here (terminals.Reserved words.Negedge)) refl (seen i) ⟫ entering ⟫ taking right i refl
trigger_step words.Bothedge e i = entering ⟫ opening right (Here (terminals.Reserved words.Bothedge)) refl (seen i) ⟫ entering ⟫ taking right i refl
trigger_step words.Level e i = entering ⟫ opening right (Here (terminals.Reserved words.Level)) refl (seen i) ⟫ entering ⟫ taking right i refl
trigger_step words.Nonsticky e i = entering ⟫ opening right (Here (terminals.Reserved words.Nonsticky)) refl (seen i) ⟫ entering ⟫ taking right i refl
trigger_step _ e i = cc
