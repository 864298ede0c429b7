-- What a seat that is taken leaves as it was for other names.
use Rattle.std.specs.List.{list_any}
use Rattle.std.specs.Str.{bytes_eq}
use Rattle.std.proofs.Common.{ℕ, ◌≡◌, ◌==◌, true, false, ◌&&◌, ◌||◌, if◌then◌else◌, List, [], ◌∷◌, ◌++◌, is_none, inl, inr, refl, ap, sym, ◌∙◌, subst}
use Rattle.std.proofs.lemmas.Bool.{cases_Bool, or_from}
use Rattle.std.proofs.lemmas.List.Folds.{list_any-append}
use Rattle.std.proofs.lemmas.Slice.Eq.{bytes_eq-Decides}
use Rattle.rtl_net.specs.Names.{Lacks}
use Rattle.rtl_net.specs.Net.{Net}
use Rattle.rtl_net.specs.Ports.{seat_names, register_names, has_room, seated, IsNew, IsFree}
use Rattle.rtl_net.specs.declared.node.Seat.{Seat}
use Rattle.rtl_net.specs.declared.node.Occupant.{Occupant}
use Rattle.rtl_net.proofs.PortLists.{taken_by}
use Rattle.rtl_net.proofs.Seating.{seat_names-seated}
use Rattle.rtl_net.proofs.Distinct.{Differ}

module _ (a : List ℕ) (u : ℕ) (t : Occupant) (m : List ℕ) (d : Differ m a) where
  other_here : (r : Seat) → bytes_eq a r.name ≡ true → bytes_eq m r.name ≡ false
  other_here r b = ap (bytes_eq m) (sym ((bytes_eq-Decides a r.name).0 b)) ∙ d

  pub has_room-other : (ss : List Seat) (w : ℕ) → has_room (seated ss a u t) m w ≡ has_room ss m w
  has_room-other [] w = rw d refl
  has_room-other (r ∷ ss) w = elim (cases_Bool (bytes_eq a r.name)) [
    | inl b ↦ ap (λ x. has_room (if x then taken_by r t ∷ ss else r ∷ seated ss a u t) m w) b ∙ passes (other_here r b)
    | inr b ↦ ap (λ x. has_room (if x then taken_by r t ∷ ss else r ∷ seated ss a u t) m w) b ∙ ap (λ y. if bytes_eq m r.name then is_none r.taken && r.width == w else y) (has_room-other ss w)
  ]
    where
      passes : bytes_eq m r.name ≡ false → has_room (taken_by r t ∷ ss) m w ≡ has_room (r ∷ ss) m w
      passes f = rw f refl

  pub Lacks-seated : (ss : List Seat) → Lacks (seat_names ss) m → Lacks (seat_names (seated ss a u t)) m
  Lacks-seated ss l = elim (seat_names-seated a u t ss) [
    | inl p ↦ subst (λ xs. Lacks xs m) (sym p.1) (list_any-append (bytes_eq m) (seat_names ss) (a ∷ []) ∙ or_from (list_any (bytes_eq m) (seat_names ss)) (bytes_eq m a || false) l (or_from (bytes_eq m a) false d refl))
    | inr p ↦ subst (λ xs. Lacks xs m) (sym p.1) l
  ]

-- an input or output of another name is added
module _ (old new : Net) (a : List ℕ) (u : ℕ) (t : Occupant) (es : new.seats ≡ seated old.seats a u t) (er : register_names new ≡ register_names old) (m : List ℕ) (d : Differ m a) where
  pub IsNew-seated : IsNew old m → IsNew new m
  IsNew-seated h = record {
    seats = subst (λ ss. Lacks (seat_names ss) m) (sym es) (Lacks-seated a u t m d old.seats h.seats);
    registers = subst (λ rs. Lacks rs m) (sym er) h.registers;
  }

  pub IsFree-seated : (w : ℕ) → IsFree old m w → IsFree new m w
  IsFree-seated w h = record { seats = ap (λ ss. has_room ss m w) es ∙ has_room-other a u t m d old.seats w ∙ h.seats; registers = subst (λ rs. Lacks rs m) (sym er) h.registers }

-- a register of another name is added
module _ (old new : Net) (a : List ℕ) (es : new.seats ≡ old.seats) (er : register_names new ≡ register_names old ++ a ∷ []) (m : List ℕ) (d : Differ m a) where
  lacks_pushed : Lacks (register_names old) m → Lacks (register_names new) m
  lacks_pushed l = subst (λ rs. Lacks rs m) (sym er) (list_any-append (bytes_eq m) (register_names old) (a ∷ []) ∙ or_from (list_any (bytes_eq m) (register_names old)) (bytes_eq m a || false) l (or_from (bytes_eq m a) false d refl))

  pub IsNew-pushed : IsNew old m → IsNew new m
  IsNew-pushed h = record { seats = subst (λ ss. Lacks (seat_names ss) m) (sym es) h.seats; registers = lacks_pushed h.registers }

  pub IsFree-pushed : (w : ℕ) → IsFree old m w → IsFree new m w
  IsFree-pushed w h = record { seats = ap (λ ss. has_room ss m w) es ∙ h.seats; registers = lacks_pushed h.registers }

-- nothing of a name is added
module _ (old new : Net) (es : new.seats ≡ old.seats) (er : register_names new ≡ register_names old) (m : List ℕ) where
  pub IsNew-same : IsNew old m → IsNew new m
  IsNew-same h = record { seats = subst (λ ss. Lacks (seat_names ss) m) (sym es) h.seats; registers = subst (λ rs. Lacks rs m) (sym er) h.registers }

  pub IsFree-same : (w : ℕ) → IsFree old m w → IsFree new m w
  IsFree-same w h = record { seats = ap (λ ss. has_room ss m w) es ∙ h.seats; registers = subst (λ rs. Lacks rs m) (sym er) h.registers }
