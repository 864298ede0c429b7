-- A source from its front: where its items stop being a source, nothing follows.
use Rattle.std.proofs.Common.{◌≡◌, ◌<◌, ◌≤◌, List, [], ◌∷◌, ◌++◌, length, refl, sym, ◌∙◌, subst, arith, inl, inr, append-nil, append_assoc}
use Rattle.rb_grammar.specs.Forms.{Form, Non, Many, Begins, StopsAt, at_token, at_end}
use Rattle.rb_grammar.specs.Readings.{Goal, Whole, Upto, behind_next, IsAhead, IsReached, Reads, whole, reached, rule, turn, Same, Stops}
use Rattle.rb_grammar.proofs.Following.{at_goal, read_rule, read_many}
use Rattle.rb_grammar.proofs.Bridge.{reads_fit, reads_begin, begun, begins_one}
use Rattle.rdl_tree.specs.declared.token.Terminal.{Terminal}
use Rattle.rdl_tree.specs.declared.token.Token.{Token}
use Rattle.rdl_tree.specs.Grammar.{Rule, grammar}
use Rattle.rdl_tree.specs.Grammar as rules

abbrev pub items : List (Form Terminal Rule)
items = Many (Non rules.Item) ∷ []

abbrev pub source : List (Form Terminal Rule)
source = Non rules.Source ∷ []

-- to read a source from the first list is to read items from the second
pub record Leads (ts us : List Token) : Type 0 where
  pub there : (g : Goal Token) → IsAhead g us → Reads grammar g source ts → Reads grammar g items us
  pub back : (g : Goal Token) → Reads grammar g items us → Reads grammar g source ts
  pub on : length us ≤ length ts

pub leads_on : (ts : List Token) → Leads ts ts
leads_on ts = record { there = λ g a r. read_rule grammar r; back = λ g r. rule r; on = omega arith }

farther : (g : Goal Token) (us vs : List Token) → length vs ≤ length us → IsAhead g vs → IsAhead g us
farther Whole us vs l a = tt
farther (Upto left) us vs l a = omega (arith, l, a)

ahead_behind : (us : List Token) → IsAhead (behind_next us) us
ahead_behind [] = tt
ahead_behind (t ∷ ts) = omega arith

-- nothing is read of a token that is left
at_end_of : (g : Goal Token) (us : List Token) → 0 < length us → Reads grammar g [] us → IsReached g us
at_end_of _ _ l whole = absurd (omega (arith, l))
at_end_of _ us l (reached e) = e

-- one item more
opens : (g : Goal Token) (us : List Token) → 0 < length us → Reads grammar g items us → Reads grammar g (Non rules.Item ∷ items) us
opens g us l r = elim (read_many grammar r) [ inl x ↦ x | inr x ↦ at_goal grammar g (Non rules.Item ∷ items) (at_end_of g us l x) ]

pub leads_more : {ts us vs : List Token} → Leads ts us → 0 < length us → Same grammar [] (Non rules.Item ∷ []) us [] vs → Leads ts vs
leads_more {us = us} {vs = vs} p l s = record {
  there = λ g a r. s.there g items tt a (opens g us l (p.there g (farther g us vs s.on a) r));
  back = λ g r. p.back g (turn (s.back g items r));
  on = omega (arith, p.on, s.on);
}

-- where an item stops, the source does
pub leads_stop : {ts us vs : List Token} → Leads ts us → 0 < length us → Stops grammar [] (Non rules.Item ∷ []) us vs → StopsAt grammar (Non rules.Source) ts vs
leads_stop {ts = ts} {us = us} {vs = vs} p l s = let h = begun grammar begins vs refl in go vs h.0 h.1 (begins_one grammar (Non rules.Source) h.0 h.2) refuses
  where
    begins : Reads grammar (Upto vs) source ts
    begins = p.back (Upto vs) (turn (s.begins items))

    refuses : Reads grammar (behind_next vs) source ts → ⊥
    refuses r = s.refuses items tt (opens (behind_next vs) us l (p.there (behind_next vs) (farther (behind_next vs) us vs s.on (ahead_behind vs)) r))

    go : (left front : List Token) → ts ≡ front ++ left → Begins grammar (Non rules.Source) front → (Reads grammar (behind_next left) source ts → ⊥) → StopsAt grammar (Non rules.Source) ts left
    go [] front e b n = at_end {ts = ts} (subst (λ z. Begins grammar (Non rules.Source) z) (sym (e ∙ append-nil front)) b)
        (λ q. n (subst (λ z. Reads grammar Whole source z) (append-nil ts) (reads_fit grammar q Whole [] [] whole)))
    go (t ∷ after) front e b n = at_token {ts = ts} front after t e b
        (λ q. n (subst (λ z. Reads grammar (Upto after) source z) (append_assoc front (t ∷ []) after ∙ sym e) (reads_begin grammar q [] after)))
