-- The ports of a netlist, and which names are new.
use Rattle.std.specs.Str.{bytes_eq}
use Rattle.std.specs.List.{list_any}
use Rattle.std.specs.Prelude.{ℕ, ◌≡◌, ◌==◌, Bool, true, ◌&&◌, ◌||◌, if◌then◌else◌, List, [], ◌∷◌, map, Option, Some, None, is_none, is_some}
use Rattle.rtl_net.specs.Names.{Lacks}
use Rattle.rtl_net.specs.Net.{Net, registers_of}
use Rattle.rtl_net.specs.declared.node.Seat.{Seat}
use Rattle.rtl_net.specs.declared.node.Occupant.{Occupant}

abbrev pub seat_names : List Seat → List (List ℕ)
seat_names ss = map (λ s. s.name) ss

abbrev pub register_names : Net → List (List ℕ)
register_names net = map (λ r. r.name) (registers_of net.nodes)

-- no port and no register has the name
pub record IsNew (net : Net) (name : List ℕ) : Type 0 where
  pub seats : Lacks (seat_names net.seats) name
  pub registers : Lacks (register_names net) name

-- the first seat of the name, if there is one, is not taken and has the width
abbrev pub has_room : List Seat → List ℕ → ℕ → Bool
has_room [] name w = true
has_room (s ∷ ss) name w = if bytes_eq name s.name then is_none s.taken && s.width == w else has_room ss name w

-- a port of this name and width may be added
pub record IsFree (net : Net) (name : List ℕ) (w : ℕ) : Type 0 where
  pub seats : has_room net.seats name w ≡ true
  pub registers : Lacks (register_names net) name

-- the seats after the one of the name is taken, or after a taken one is put at the end
abbrev pub seated : List Seat → List ℕ → ℕ → Occupant → List Seat
seated [] name w t = record { name = name; width = w; taken = Some t } ∷ []
seated (s ∷ ss) name w t = if bytes_eq name s.name then record { name = s.name; width = s.width; taken = Some t } ∷ ss else s ∷ seated ss name w t

-- what has taken the seat of the name
abbrev pub taken_in : List Seat → List ℕ → Option Occupant
taken_in [] name = None
taken_in (s ∷ ss) name = if bytes_eq name s.name then s.taken else taken_in ss name

-- an input, a register or an output has the name
abbrev pub is_named : Net → List ℕ → Bool
is_named net name = is_some (taken_in net.seats name) || list_any (bytes_eq name) (register_names net)
