-- Seats that are put at the end or taken.
use Rattle.std.specs.List.{slice_get, list_any, list_all, AllByRecursion}
use Rattle.std.specs.Str.{bytes_eq}
use Rattle.std.specs.Cmp.Lexicographic.{nat_list_eq_equiv}
use Rattle.std.proofs.Common.{zero, suc, ℕ, ◌≡◌, ◌==◌, Bool, true, false, ◌&&◌, ◌||◌, if◌then◌else◌, List, [], ◌∷◌, ◌++◌, Some, None, inl, inr, ◌⊎◌, refl, ap, sym, ◌∙◌, subst, arith, is_none}
use Rattle.std.proofs.lemmas.Bool.{cases_Bool, and_parts, and_from, or_parts, or_from, eqb-true}
use Rattle.std.proofs.lemmas.Slice.Eq.{bytes_eq-Decides}
use Rattle.std.proofs.lemmas.Map.Keys.{IsDistinct-push}
use Rattle.std.proofs.lemmas.List.Folds.{list_any-append}
use Rattle.rtl_net.specs.Names.{Lacks, is_net_name}
use Rattle.rtl_net.specs.Net.{Net, Extends}
use Rattle.rtl_net.specs.Ports.{seat_names, has_room, seated}
use Rattle.rtl_net.specs.Made.{AreNames}
use Rattle.rtl_net.specs.declared.node.Seat.{Seat}
use Rattle.rtl_net.specs.declared.node.Occupant.{Occupant}
use Rattle.rtl_net.proofs.Places.{slice_get-front}
use Rattle.rtl_net.proofs.PortLists.{taken_by}

abbrev pub seat_of : List ℕ → ℕ → Occupant → Seat
seat_of name w t = record { name = name; width = w; taken = Some t }

-- each taken seat stays where it is
pub record KeepsTaken (old new : List Seat) : Type 0 where
  pub stays : (i : ℕ) (name : List ℕ) (w : ℕ) (t : Occupant) → slice_get old i ≡ Some (seat_of name w t) → slice_get new i ≡ Some (seat_of name w t)

pub KeepsTaken-refl : (ss : List Seat) → KeepsTaken ss ss
KeepsTaken-refl ss = record { stays = λ i name w t h. h }

pub KeepsTaken-push : (ss : List Seat) (s : Seat) → KeepsTaken ss (ss ++ s ∷ [])
KeepsTaken-push ss s = record { stays = λ i name w t h. slice_get-front ss s i _ h }

pub seats_extend : (net : Net) (ss : List Seat) → KeepsTaken net.seats ss → Extends net (record net { seats = ss })
seats_extend net ss k = record {
  settles = λ v s. record {
    edge = record {
      nodes = s.edge.nodes;
      nexts = s.edge.nexts;
      outs = λ i name w from h. s.edge.outs i name w from (k.stays i name w _ h);
    };
    fits = s.fits;
  };
  count = omega arith;
  width = λ id h. refl;
  inputs = λ id name w h. record { is = h.is };
  clock = λ h. h;
}

module _ (name : List ℕ) (w : ℕ) (t : Occupant) where
  -- what stands at a place of the seats, by whether the first has the name
  here : (r : Seat) (ss : List Seat) → bytes_eq name r.name ≡ true → seated (r ∷ ss) name w t ≡ taken_by r t ∷ ss
  here r ss b = ap (λ x. if x then taken_by r t ∷ ss else r ∷ seated ss name w t) b

  there : (r : Seat) (ss : List Seat) → bytes_eq name r.name ≡ false → seated (r ∷ ss) name w t ≡ r ∷ seated ss name w t
  there r ss b = ap (λ x. if x then taken_by r t ∷ ss else r ∷ seated ss name w t) b

  room_here : (r : Seat) (ss : List Seat) → bytes_eq name r.name ≡ true → has_room (r ∷ ss) name w ≡ true → (is_none r.taken ≡ true) × (r.width ≡ w)
  room_here r ss b h =
      let e : (is_none r.taken && r.width == w) ≡ true = sym (ap (λ x. if x then is_none r.taken && r.width == w else has_room ss name w) b) ∙ h in
      let p = and_parts (is_none r.taken) (r.width == w) e in
      (p.0, eqb-true r.width w p.1)

  room_there : (r : Seat) (ss : List Seat) → bytes_eq name r.name ≡ false → has_room (r ∷ ss) name w ≡ true → has_room ss name w ≡ true
  room_there r ss b h = sym (ap (λ x. if x then is_none r.taken && r.width == w else has_room ss name w) b) ∙ h

  open_seat : (r : Seat) (n : List ℕ) (u : ℕ) (s : Occupant) → is_none r.taken ≡ true → r ≡ seat_of n u s → ⊥
  open_seat r n u s e h = let p : is_none {T = Occupant} (Some s) ≡ true = ap (λ x. is_none x.taken) (sym h) ∙ e in cc

  some_eq : {X : Type 0} {x y : X} → Some x ≡ Some y → x ≡ y
  some_eq h = cc

  stays_at : (ss : List Seat) → has_room ss name w ≡ true → (i : ℕ) (n : List ℕ) (u : ℕ) (s : Occupant) → slice_get ss i ≡ Some (seat_of n u s) → slice_get (seated ss name w t) i ≡ Some (seat_of n u s)
  stays_at [] room i n u s h = absurd (let q : None ≡ Some (seat_of n u s) = h in cc)
  stays_at (r ∷ ss) room zero n u s h = elim (cases_Bool (bytes_eq name r.name)) [
    | inl b ↦ absurd (open_seat r n u s (room_here r ss b room).0 (some_eq h))
    | inr b ↦ ap (λ xs. slice_get xs zero) (there r ss b) ∙ h
  ]
  stays_at (r ∷ ss) room (suc i) n u s h = elim (cases_Bool (bytes_eq name r.name)) [
    | inl b ↦ ap (λ xs. slice_get xs (suc i)) (here r ss b) ∙ h
    | inr b ↦ ap (λ xs. slice_get xs (suc i)) (there r ss b) ∙ stays_at ss (room_there r ss b room) i n u s h
  ]

  pub KeepsTaken-seated : (ss : List Seat) → has_room ss name w ≡ true → KeepsTaken ss (seated ss name w t)
  KeepsTaken-seated ss room = record { stays = stays_at ss room }

  -- the seat that is taken
  pub seated_has : (ss : List Seat) → has_room ss name w ≡ true → (i : ℕ) × (slice_get (seated ss name w t) i ≡ Some (seat_of name w t))
  seated_has [] room = (0, refl)
  seated_has (r ∷ ss) room = elim (cases_Bool (bytes_eq name r.name)) [
    | inl b ↦ let e : r.name ≡ name = sym ((bytes_eq-Decides name r.name).0 b) in
        let u : r.width ≡ w = (room_here r ss b room).1 in
        (0, ap (λ xs. slice_get xs zero) (here r ss b) ∙ ap (λ n. Some (seat_of n r.width t)) e ∙ ap (λ x. Some (seat_of name x t)) u)
    | inr b ↦ let q = seated_has ss (room_there r ss b room) in (suc q.0, ap (λ xs. slice_get xs (suc q.0)) (there r ss b) ∙ q.1)
  ]

  pub seated_cases : (ss : List Seat) → has_room ss name w ≡ true → (i : ℕ) (s : Seat) → slice_get (seated ss name w t) i ≡ Some s → (slice_get ss i ≡ Some s) ⊎ (s ≡ seat_of name w t)
  seated_cases [] room zero s h = inr (sym (some_eq h))
  seated_cases [] room (suc i) s h = absurd (let q : None ≡ Some s = h in cc)
  seated_cases (r ∷ ss) room zero s h = elim (cases_Bool (bytes_eq name r.name)) [
    | inl b ↦ let e : r.name ≡ name = sym ((bytes_eq-Decides name r.name).0 b) in
        let u : r.width ≡ w = (room_here r ss b room).1 in
        let g : Some (taken_by r t) ≡ Some s = sym (ap (λ xs. slice_get xs zero) (here r ss b)) ∙ h in
        inr (sym (some_eq g) ∙ ap (λ n. seat_of n r.width t) e ∙ ap (λ x. seat_of name x t) u)
    | inr b ↦ inl (sym (ap (λ xs. slice_get xs zero) (there r ss b)) ∙ h)
  ]
  seated_cases (r ∷ ss) room (suc i) s h = elim (cases_Bool (bytes_eq name r.name)) [
    | inl b ↦ inl (sym (ap (λ xs. slice_get xs (suc i)) (here r ss b)) ∙ h)
    | inr b ↦ seated_cases ss (room_there r ss b room) i s (sym (ap (λ xs. slice_get xs (suc i)) (there r ss b)) ∙ h)
  ]

  -- the name is put at the end of the seats' names, or stands there
  pub seat_names-seated : (ss : List Seat)
      → (Lacks (seat_names ss) name × (seat_names (seated ss name w t) ≡ seat_names ss ++ name ∷ []))
      ⊎ ((list_any (bytes_eq name) (seat_names ss) ≡ true) × (seat_names (seated ss name w t) ≡ seat_names ss))
  seat_names-seated [] = inl (refl, refl)
  seat_names-seated (r ∷ ss) = elim (cases_Bool (bytes_eq name r.name)) [
    | inl b ↦ inr (ap (λ x. x || list_any (bytes_eq name) (seat_names ss)) b, ap seat_names (here r ss b))
    | inr b ↦ elim (seat_names-seated ss) [
      | inl p ↦ inl (or_from _ _ b p.0, ap seat_names (there r ss b) ∙ ap (λ xs. r.name ∷ xs) p.1)
      | inr p ↦ inr (ap (λ x. x || list_any (bytes_eq name) (seat_names ss)) b ∙ p.0, ap seat_names (there r ss b) ∙ ap (λ xs. r.name ∷ xs) p.1)
    ]
  ]

list_all-push : (p : List ℕ → Bool) (xs : List (List ℕ)) (y : List ℕ) → list_all p xs ≡ true → p y ≡ true → list_all p (xs ++ y ∷ []) ≡ true
list_all-push p [] y a b = and_from (p y) true b refl
list_all-push p (x ∷ xs) y a b = let q = and_parts (p x) (list_all p xs) a in and_from (p x) (list_all p (xs ++ y ∷ [])) q.0 (list_all-push p xs y q.1 b)

AllByRecursion-push : (P : List ℕ → Type 0) (xs : List (List ℕ)) (y : List ℕ) → AllByRecursion P xs → P y → AllByRecursion P (xs ++ y ∷ [])
AllByRecursion-push P [] y a b = (b, tt)
AllByRecursion-push P (x ∷ xs) y a b = (a.0, AllByRecursion-push P xs y a.1 b)

Lacks-push : (xs : List (List ℕ)) (y n : List ℕ) → Lacks xs n → bytes_eq n y ≡ false → Lacks (xs ++ y ∷ []) n
Lacks-push xs y n a b = list_any-append (bytes_eq n) xs (y ∷ []) ∙ or_from (list_any (bytes_eq n) xs) (bytes_eq n y || false) a (or_from (bytes_eq n y) false b refl)

apart-push : (xs : List (List ℕ)) (y : List ℕ) (rs : List (List ℕ)) → AllByRecursion (Lacks xs) rs → Lacks rs y → AllByRecursion (Lacks (xs ++ y ∷ [])) rs
apart-push xs y [] a b = tt
apart-push xs y (r ∷ rs) a b =
    let q = or_parts (bytes_eq y r) (list_any (bytes_eq y) rs) b in
    (Lacks-push xs y r a.0 (nat_list_eq_equiv.symm r y ∙ q.0), apart-push xs y rs a.1 q.1)

pub AreNames-seat : (seats registers : List (List ℕ)) (name : List ℕ) → AreNames seats registers → is_net_name name ≡ true → Lacks seats name → Lacks registers name → AreNames (seats ++ name ∷ []) registers
AreNames-seat seats registers name a n p q = record {
  seat_named = list_all-push is_net_name seats name a.seat_named n;
  register_named = a.register_named;
  seats_differ = IsDistinct-push nat_list_eq_equiv seats name a.seats_differ p;
  registers_differ = a.registers_differ;
  apart = apart-push seats name registers a.apart q;
}

pub AreNames-register : (seats registers : List (List ℕ)) (name : List ℕ) → AreNames seats registers → is_net_name name ≡ true → Lacks seats name → Lacks registers name → AreNames seats (registers ++ name ∷ [])
AreNames-register seats registers name a n p q = record {
  seat_named = a.seat_named;
  register_named = list_all-push is_net_name registers name a.register_named n;
  seats_differ = a.seats_differ;
  registers_differ = IsDistinct-push nat_list_eq_equiv registers name a.registers_differ q;
  apart = AllByRecursion-push (Lacks seats) registers name a.apart p;
}

pub AreNames-seated : (ss : List Seat) (registers : List (List ℕ)) (name : List ℕ) (w : ℕ) (t : Occupant) → AreNames (seat_names ss) registers → is_net_name name ≡ true → Lacks registers name
    → AreNames (seat_names (seated ss name w t)) registers
AreNames-seated ss registers name w t a n q = elim (seat_names-seated name w t ss) [
  | inl p ↦ subst (λ xs. AreNames xs registers) (sym p.1) (AreNames-seat (seat_names ss) registers name a n p.0 q)
  | inr p ↦ subst (λ xs. AreNames xs registers) (sym p.1) a
]
