-- Seats in lists.
use Rattle.std.specs.List.{list_any}
use Rattle.std.specs.Str.{bytes_eq}
use Rattle.std.proofs.Common.{◌≡◌, ℕ, zero, suc, true, false, cond, if◌then◌else◌, List, [], ◌∷◌, ◌++◌, length, take, slice_get, Some, None, refl, ap, sym, ◌∙◌, subst}
use Rattle.std.proofs.Math.ListN.{set}
use Rattle.std.proofs.lemmas.List.{length-map, map-append}
use Rattle.std.proofs.lemmas.Slice.Eq.{bytes_eq-Decides}
use Rattle.rtl_net.specs.Names.{Lacks}
use Rattle.rtl_net.specs.Places.{ArePlaces, place_of}
use Rattle.rtl_net.specs.Ports.{seat_names, seated, taken_in}
use Rattle.rtl_net.specs.declared.names.Names.{Names}
use Rattle.rtl_net.specs.declared.node.Seat.{Seat}
use Rattle.rtl_net.specs.declared.node.Occupant.{Occupant}
use Rattle.rtl_net.proofs.NameLists.{IsPut, places_more}
use Rattle.plain_lemmas.proofs.Bools.{or-left_false, or-right_false}

-- the seat that has the name at this place
pub seat_at : (ss : List Seat) (i : ℕ) (name : List ℕ) → slice_get (seat_names ss) i ≡ Some name → (s : Seat) × (slice_get ss i ≡ Some s) × (s.name ≡ name)
seat_at [] i name h = absurd (let e : None ≡ Some name = h in cc)
seat_at (s ∷ ss) zero name h = (s, refl, cc)
seat_at (s ∷ ss) (suc i) name h = seat_at ss i name h

abbrev pub taken_by : Seat → Occupant → Seat
taken_by s t = record { name = s.name; width = s.width; taken = Some t }

module _ (name : List ℕ) (w : ℕ) (t : Occupant) where
  pub seated-found : (ss : List Seat) (i : ℕ) (s : Seat) → slice_get ss i ≡ Some s → s.name ≡ name → Lacks (take i (seat_names ss)) name
      → seated ss name w t ≡ set ss i (taken_by s t)
  seated-found [] i s h e l = absurd (let q : None ≡ Some s = h in cc)
  seated-found (r ∷ ss) zero s h e l =
      let q : r ≡ s = cc in
      let b : bytes_eq name r.name ≡ true = (bytes_eq-Decides name r.name).1 (sym (ap (λ x. x.name) q ∙ e)) in
      ap (λ x. if x then taken_by r t ∷ ss else r ∷ seated ss name w t) b ∙ ap (λ x. taken_by x t ∷ ss) q
  seated-found (r ∷ ss) (suc i) s h e l =
      let b : bytes_eq name r.name ≡ false = or-left_false (bytes_eq name r.name) (list_any (bytes_eq name) (take i (seat_names ss))) l in
      let l' : Lacks (take i (seat_names ss)) name = or-right_false (bytes_eq name r.name) (list_any (bytes_eq name) (take i (seat_names ss))) l in
      ap (λ x. if x then taken_by r t ∷ ss else r ∷ seated ss name w t) b ∙ ap (λ xs. r ∷ xs) (seated-found ss i s h e l')

  pub seated-new : (ss : List Seat) → Lacks (seat_names ss) name → seated ss name w t ≡ ss ++ record { name = name; width = w; taken = Some t } ∷ []
  seated-new [] l = refl
  seated-new (r ∷ ss) l =
      let b : bytes_eq name r.name ≡ false = or-left_false (bytes_eq name r.name) (list_any (bytes_eq name) (seat_names ss)) l in
      let l' : Lacks (seat_names ss) name = or-right_false (bytes_eq name r.name) (list_any (bytes_eq name) (seat_names ss)) l in
      ap (λ x. if x then taken_by r t ∷ ss else r ∷ seated ss name w t) b ∙ ap (λ xs. r ∷ xs) (seated-new ss l')

pub seat_names-set : (ss : List Seat) (i : ℕ) (s r : Seat) → slice_get ss i ≡ Some s → r.name ≡ s.name → seat_names (set ss i r) ≡ seat_names ss
seat_names-set [] i s r h e = refl
seat_names-set (q ∷ ss) zero s r h e = let p : q ≡ s = cc in ap (λ n. n ∷ seat_names ss) (e ∙ sym (ap (λ x. x.name) p))
seat_names-set (q ∷ ss) (suc i) s r h e = ap (λ xs. q.name ∷ xs) (seat_names-set ss i s r h e)

pub seat_names-push : (ss : List Seat) (s : Seat) → seat_names (ss ++ s ∷ []) ≡ seat_names ss ++ s.name ∷ []
seat_names-push [] s = refl
seat_names-push (q ∷ ss) s = ap (λ xs. q.name ∷ xs) (seat_names-push ss s)

-- what has taken the seat of a name
module _ (name : List ℕ) where
  pub taken_in-found : (ss : List Seat) (i : ℕ) (s : Seat) → slice_get ss i ≡ Some s → s.name ≡ name → Lacks (take i (seat_names ss)) name → taken_in ss name ≡ s.taken
  taken_in-found [] i s h e l = absurd (let q : None ≡ Some s = h in cc)
  taken_in-found (r ∷ ss) zero s h e l =
      let q : r ≡ s = cc in
      let b : bytes_eq name r.name ≡ true = (bytes_eq-Decides name r.name).1 (sym (ap (λ x. x.name) q ∙ e)) in
      ap (λ x. if x then r.taken else taken_in ss name) b ∙ ap (λ x. x.taken) q
  taken_in-found (r ∷ ss) (suc i) s h e l =
      let b : bytes_eq name r.name ≡ false = or-left_false (bytes_eq name r.name) (list_any (bytes_eq name) (take i (seat_names ss))) l in
      let l' : Lacks (take i (seat_names ss)) name = or-right_false (bytes_eq name r.name) (list_any (bytes_eq name) (take i (seat_names ss))) l in
      ap (λ x. if x then r.taken else taken_in ss name) b ∙ taken_in-found ss i s h e l'

  pub taken_in-absent : (ss : List Seat) → Lacks (seat_names ss) name → taken_in ss name ≡ None
  taken_in-absent [] l = refl
  taken_in-absent (r ∷ ss) l =
      let b : bytes_eq name r.name ≡ false = or-left_false (bytes_eq name r.name) (list_any (bytes_eq name) (seat_names ss)) l in
      ap (λ x. if x then r.taken else taken_in ss name) b ∙ taken_in-absent ss (or-right_false (bytes_eq name r.name) (list_any (bytes_eq name) (seat_names ss)) l)

-- the places with one seat more
pub seat_pushed : (old new : Names) (ss : List Seat) (s : Seat) → ArePlaces old (seat_names ss) → Lacks (seat_names ss) s.name → IsPut s.name (length ss) old new → ArePlaces new (seat_names (ss ++ s ∷ []))
seat_pushed old new ss s h l put =
    subst (ArePlaces new) (sym (map-append (λ x. x.name) ss (s ∷ [])))
    (places_more old new (seat_names ss) s.name h l (λ n. put n ∙ ap (λ k. cond (bytes_eq s.name n) (Some k) (place_of old n)) (sym (length-map ss (λ x. x.name)))))
