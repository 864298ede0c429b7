-- Steps and trees of instances and properties.
use Rattle.std.proofs.Common.{◌≡◌, false, Result, Ok, Err, IfOk, List, [], ◌∷◌, refl, ap, sym, subst}
use Rattle.std.proofs.lemmas.Bool.{both_ways}
use Rattle.rb_base.specs.declared.place.Place.{Place}
use Rattle.rb_grammar.specs.declared.stop.Stop.{Stop}
use Rattle.rb_grammar.specs.Forms.{Form, Non, Opt, Many, ◌or◌, ◌then◌}
use Rattle.rb_grammar.specs.Readings.{Goal, IsReached, Reads, reached, token, at, Misses, IsBarred, Same, Stops}
use Rattle.rb_grammar.proofs.Following.{◌⟫◌, ◌⟫|◌, read_both, same_some, same_none, same_both, same_token, before, stops_before}
use Rattle.rb_grammar.proofs.Steps.{entering, staying, taking, calling, calling_stops}
use Rattle.rdl_tree.specs.declared.expr.Name.{Name}
use Rattle.rdl_tree.specs.declared.item.Set.{Set}
use Rattle.rdl_tree.specs.declared.token.Mark.{Mark}
use Rattle.rdl_tree.specs.declared.token.Mark.TheVariants as marks
use Rattle.rdl_tree.specs.declared.token.Terminal.{Terminal}
use Rattle.rdl_tree.specs.declared.token.Terminal.TheVariants as terminals
use Rattle.rdl_tree.specs.declared.token.Token.{Token}
use Rattle.rdl_tree.specs.Grammar.{Rule, grammar, name, mark, behind}
use Rattle.rdl_tree.specs.Grammar as rules
use Rattle.rdl_tree.specs.Tree.{IsMark, DerivesProp, StartsAt, DerivesLocal, DerivesSet, assigned}
use Rattle.rdl_parser.specs.ItemForms.{after_behind, shape, dims_or_range, Sets}
use Rattle.rdl_expressions.specs.Following.{after_indices, after_expr}
use Rattle.rdl_expressions.proofs.Firsts.{right}
use Rattle.rdl_expressions.proofs.Phrases.{index_step}
use Rattle.rb_grammar.proofs.Factoring.{splitting, packing, either, either_stops}

-- an optional part behind a mark

behind_bars : {m : Mark} (fs : List (Form Terminal Rule)) (ts : List Token) → at grammar (terminals.Mark m) ts ≡ false → IsBarred grammar (behind m ∷ fs) ts
behind_bars {m = m} fs ts e = λ g r. go g ts e (read_both grammar r)
  where
    go : (g : Goal Token) (ts : List Token) → at grammar (terminals.Mark m) ts ≡ false → Reads grammar g (mark m ∷ Non rules.Expr ∷ fs) ts → IsReached g ts
    go _ _ e (reached p) = p
    go _ _ e (token i r) = absurd (both_ways _ e i)

pub behind_taken : {m : Mark} {t : Token} {ts us : List Token} → IsMark m ts t us → Same grammar (after_behind m) (Opt (behind m) ∷ []) ts (Non rules.Expr ∷ []) us
behind_taken {m = m} {t = t} {us = us} i = subst (λ z. Same grammar (after_behind m) (Opt (behind m) ∷ []) z (Non rules.Expr ∷ []) us) (sym i.list)
    (same_some grammar (after_behind m) (behind m) [] (t ∷ us) (λ hs av. av.0 (t ∷ us) i.token)
    ⟫ same_both grammar (after_behind m) (mark m) (Non rules.Expr) [] (t ∷ us)
    ⟫ same_token grammar (after_behind m) (terminals.Mark m) t (Non rules.Expr ∷ []) us i.token)

pub behind_missed : {m : Mark} {ts us : List Token} → Misses grammar (terminals.Mark m) ts us → Same grammar (after_behind m) (Opt (behind m) ∷ []) ts [] us
behind_missed {m = m} {ts = ts} k = same_none grammar (after_behind m) (behind m) [] ts (λ hs av. behind_bars hs ts k.token) ⟫ staying k.list

pub behind_expr : {m : Mark} {ts us : List Token} → Same grammar after_expr (Non rules.Expr ∷ []) ts [] us → Same grammar (after_behind m) (Non rules.Expr ∷ []) ts [] us
behind_expr p = before grammar [] (λ hs av. av.1) p

pub behind_stops : {m : Mark} {ts us : List Token} → Stops grammar after_expr (Non rules.Expr ∷ []) ts us → Stops grammar (after_behind m) (Non rules.Expr ∷ []) ts us
behind_stops p = stops_before grammar [] (λ hs av. av.1) p

-- the shape of an instance

abbrev shape_inside : Form Terminal Rule
shape_inside = (Non rules.Expr then mark marks.CloseBracket) then Many (Non rules.Index) or Non rules.Expr then mark marks.Colon then Non rules.Expr then mark marks.CloseBracket

pub shape_step : {t : Token} {ts us : List Token} → IsMark marks.OpenBracket ts t us → Same grammar after_indices (shape ∷ []) ts (shape_inside ∷ []) us
shape_step i = either (index_step i ⟫ packing 2) (entering ⟫ taking right i refl ⟫ packing 1)

pub shape_expr : {ts us : List Token} → Same grammar after_expr (Non rules.Expr ∷ []) ts [] us → Same grammar after_indices (shape_inside ∷ []) ts (dims_or_range ∷ []) us
shape_expr p = either (splitting ⟫ calling right p refl ⟫ packing 1) (splitting ⟫ calling right p refl ⟫ packing 1)

pub shape_stops : {ts us : List Token} → Stops grammar after_expr (Non rules.Expr ∷ []) ts us → Stops grammar after_indices (shape_inside ∷ []) ts us
shape_stops s = either_stops (splitting ⟫| calling_stops right s refl) (splitting ⟫| calling_stops right s refl)

-- assignments

pub set_is_local : {prop : Name} {place : Place} {ts us vs : List Token} {s : Set} → DerivesProp ts us prop → Sets prop place us vs s → DerivesLocal place ts vs s
set_is_local {place = place} {ts = ts} {vs = vs} d s = subst (λ z. DerivesLocal place ts vs z) (sym s.is) (assigned d s.assigned s.ends)

pub set_place : (prop : Name) (place : Place) (ts us : List Token) (r : Result Set Stop) → IfOk r (Sets prop place ts us) → IfOk r (λ s. s.place ≡ place)
set_place prop place ts us (Ok s) h = ap (λ (s : Set). s.place) h.is
set_place prop place ts us (Err stop) h = tt

pub local_is_set : {place : Place} {ts us : List Token} {s : Set} → StartsAt ts place → DerivesLocal place ts us s → s.place ≡ place → DerivesSet ts us s
local_is_set {place = place} {ts = ts} {us = us} {s = s} a d e = record { at = subst (λ z. StartsAt ts z) (sym e) a; local = subst (λ z. DerivesLocal z ts us s) (sym e) d }

pub set_returns : (place : Place) (ts us : List Token) (r : Result Set Stop) → StartsAt ts place → IfOk r (DerivesLocal place ts us) → IfOk r (λ s. s.place ≡ place) → IfOk r (DerivesSet ts us)
set_returns place ts us (Ok s) a d e = local_is_set a d e
set_returns place ts us (Err stop) a d e = tt
