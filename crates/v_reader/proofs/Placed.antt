-- Tokens of the program at their places.
use Rattle.std.specs.Option.{option_map, option_map_or}
use Rattle.std.proofs.Common.{◌≡◌, ℕ, suc, ◌+◌, ◌<◌, ◌≤◌, Some, List, [], ◌∷◌, length, drop, get_or, slice_get, refl, ap, sym, ◌∙◌, arith}
use Rattle.std.proofs.Math.Seq.{drop-cons}
use Rattle.std.proofs.lemmas.List.{get_or-map, drop_all, length-map}
use Rattle.std.proofs.lemmas.Option.{slice_get-map, slice_get_read}
use Rattle.rb_grammar.specs.Spelling.{At}
use Rattle.v_design.specs.Lexemes.{Token}
use Rattle.v_syntax.specs.Tokens.{spotted, placed, place_at}
use Rattle.v_syntax.specs.declared.spot.VSpot.{VSpot}

pub placed_length : (bytes : List ℕ) (tokens : List VSpot) → length (placed bytes tokens) ≡ length tokens
placed_length bytes tokens = length-map tokens (spotted bytes)

-- what is left before a token begins with it
pub left_at : (bytes : List ℕ) (tokens : List VSpot) (k : ℕ) (d : VSpot) → k < length tokens → d ≡ get_or tokens k d → drop k (placed bytes tokens) ≡ spotted bytes d ∷ drop (suc k) (placed bytes tokens)
left_at bytes tokens k d l e =
    drop-cons (placed bytes tokens) k (spotted bytes d) (omega (arith, l, placed_length bytes tokens))
    ∙ ap (λ t. t ∷ drop (suc k) (placed bytes tokens)) (get_or-map (spotted bytes) tokens k d (spotted bytes d) l ∙ ap (spotted bytes) (sym e))

pub none_left : (bytes : List ℕ) (tokens : List VSpot) (k : ℕ) → length tokens ≤ k → drop k (placed bytes tokens) ≡ []
none_left bytes tokens k l = drop_all k (placed bytes tokens) (omega (arith, l, placed_length bytes tokens))

-- its place
pub place_is : (bytes : List ℕ) (tokens : List VSpot) (k : ℕ) (d : VSpot) → k < length tokens → d ≡ get_or tokens k d → d.place.0 ≡ place_at (placed bytes tokens) k
place_is bytes tokens k d l e =
    let here : slice_get (placed bytes tokens) k ≡ Some (spotted bytes d) = slice_get-map (spotted bytes) tokens k ∙ ap (option_map (spotted bytes)) (slice_get_read tokens (length tokens) k d refl l e) in
    sym (ap (λ o. option_map_or (λ t. t.place) o 0) here)
