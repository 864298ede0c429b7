-- Registers added one after another.
use Rattle.std.proofs.Common.{◌≡◌, ℕ, zero, suc, ◌+◌, ◌<◌, ◌^◌, ◌==◌, false, ◌||◌, if◌then◌else◌, Some, List, [], ◌∷◌, ◌++◌, codes, length, map, take, slice_get, refl, sym, ap, ◌∙◌, subst, arith, inl, inr, append_assoc}
use Rattle.std.specs.List.{list_any}
use Rattle.std.specs.Str.{bytes_eq}
use Rattle.std.proofs.lemmas.List.{length-append, map-append, take_more, take_all}
use Rattle.std.proofs.lemmas.Option.{same_Some, slice_get_within, get_or_from_slice_get}
use Rattle.plain_lemmas.proofs.Lists.{append-none, differ_by, get-taken as taken_at, list_any-append}
use Rattle.plain_lemmas.proofs.Numbers.{below_next-same_or as same_or_below}
use Rattle.rb_base.specs.declared.ports.Pin.{Pin}
use Rattle.rtl_net.specs.Names.{Lacks}
use Rattle.rtl_net.specs.Value.{under}
use Rattle.rtl_net.specs.Net.{Net, Awaits, CanReset, Extends, Keeps, IsNode, registers_of, undriven}
use Rattle.rtl_net.specs.Ids.{at}
use Rattle.rtl_net.specs.Ports.{IsNew, seat_names}
use Rattle.rtl_net.specs.declared.node.Id.{Id}
use Rattle.rtl_net.specs.declared.node.NetReset.{NetReset}
use Rattle.rtl_net.proofs.Nets.{Extends-refl, Extends-trans, Keeps-refl, Keeps-trans, IsNode-extends}
use Rattle.gen_ports.specs.Registers.{AreCleared, CanAdd, IsResetn, by_resetn}

-- Lists

none_both : (xs ys : List (List ℕ)) (n : List ℕ) → Lacks xs n → Lacks ys n → Lacks (xs ++ ys) n
none_both xs ys n a b = list_any-append (bytes_eq n) xs ys ∙ ap (λ c. c || list_any (bytes_eq n) ys) a ∙ b

-- the registers up to a place are added
pub record RowsTo (resetn : Id) (pins : List Pin) (first net : Net) (ids : List Id) (end : ℕ) : Type 0 where
  pub older : Extends first net
  pub name : net.name ≡ first.name
  pub keeps : Keeps first net
  pub seats : net.seats ≡ first.seats
  pub registers : registers_of net.nodes ≡ registers_of first.nodes ++ take end pins
  pub undriven : undriven net.nodes ≡ undriven first.nodes + end
  pub long : length ids ≡ end
  pub awaits : (j : ℕ) (r : Pin) → j < end → slice_get pins j ≡ Some r → Awaits net (at ids j) r.name r.width (by_resetn resetn)
  pub nodes : (j : ℕ) (r : Pin) → j < end → slice_get pins j ≡ Some r → IsNode net (at ids j) r.width (λ v. under v.node (by_resetn resetn) (v.kept r.name))

pub none_yet : (resetn : Id) (pins : List Pin) (net : Net) → RowsTo resetn pins net net [] 0
none_yet resetn pins net = record {
  older = Extends-refl net;
  name = refl;
  keeps = Keeps-refl net;
  seats = refl;
  registers = sym (append-none (registers_of net.nodes));
  undriven = omega arith;
  long = refl;
  awaits = λ j r low here. absurd (omega (arith, low));
  nodes = λ j r low here. absurd (omega (arith, low));
}

-- the next name is new
pub next_new : (resetn : Id) (pins : List Pin) (first net : Net) (ids : List Id) (end : ℕ) (r : Pin) → CanAdd first pins → RowsTo resetn pins first net ids end → slice_get pins end ≡ Some r → IsNew net r.name
next_new resetn pins first net ids end r can sofar here =
    let new = (can.each end r here).2 in
    let name_of : Pin → List ℕ = λ q. q.name in
    record {
      seats = subst (λ ss. Lacks (seat_names ss) r.name) (sym sofar.seats) new.seats;
      registers = subst (λ rs. Lacks (map name_of rs) r.name) (sym sofar.registers)
          (subst (λ ns. Lacks ns r.name) (sym (map-append name_of (registers_of first.nodes) (take end pins)))
          (none_both (map name_of (registers_of first.nodes)) (map (λ (s : Pin). s.name) (take end pins)) r.name new.registers (none_mapped (take end pins) (λ i s at_i.
          let t = taken_at pins end i s at_i in
          differ_by r.name s.name (λ e. let same : end ≡ i = can.apart end i r s here t.1 e in absurd (omega (arith, same, t.0)))))));
    }
  where
    none_mapped : (rs : List Pin) → ((i : ℕ) (s : Pin) → slice_get rs i ≡ Some s → bytes_eq r.name s.name ≡ false) → list_any (bytes_eq r.name) (map (λ (s : Pin). s.name) rs) ≡ false
    none_mapped [] h = refl
    none_mapped (s ∷ rs) h = let e : bytes_eq r.name s.name ≡ false = h 0 s refl in rw e (none_mapped rs (λ i q f. h (suc i) q f))

at_front : (ids : List Id) (id : Id) (j : ℕ) → j < length ids → at (ids ++ id ∷ []) j ≡ at ids j
at_front [] id j low = absurd (omega (arith, low))
at_front (x ∷ ids) id zero low = refl
at_front (x ∷ ids) id (suc j) low = at_front ids id j (omega (arith, low))

at_last : (ids : List Id) (id : Id) → at (ids ++ id ∷ []) (length ids) ≡ id
at_last [] id = refl
at_last (x ∷ ids) id = at_last ids id

-- one register more
pub one_more : (resetn : Id) (pins : List Pin) (first net new : Net) (ids ids' : List Id) (end : ℕ) (r : Pin) (id : Id) (reset : NetReset) → reset ≡ by_resetn resetn → RowsTo resetn pins first net ids end → slice_get pins end ≡ Some r → ids' ≡ ids ++ id ∷ []
    → Extends net new → new.name ≡ net.name → Keeps net new → new.seats ≡ net.seats → registers_of new.nodes ≡ registers_of net.nodes ++ r ∷ [] → undriven new.nodes ≡ undriven net.nodes + 1
    → Awaits new id r.name r.width reset → IsNode new id r.width (λ v. under v.node reset (v.kept r.name)) → RowsTo resetn pins first new ids' (end + 1)
one_more resetn pins first net new ids ids' end r id reset by sofar here pushed older name keeps seats registers driven awaits node = record {
  older = Extends-trans first net new sofar.older older;
  name = name ∙ sofar.name;
  keeps = Keeps-trans first net new sofar.keeps keeps;
  seats = seats ∙ sofar.seats;
  registers =
      registers ∙ ap (λ rs. rs ++ r ∷ []) sofar.registers ∙ append_assoc (registers_of first.nodes) (take end pins) (r ∷ [])
      ∙ ap (λ rs. registers_of first.nodes ++ rs) (sym (take_more pins end r low ∙ ap (λ y. take end pins ++ y ∷ []) (get_or_from_slice_get pins end r r here)));
  undriven = driven ∙ ap (λ n. n + 1) sofar.undriven ∙ assoc (undriven first.nodes) end;
  long = ap length pushed ∙ length-append ids (id ∷ []) ∙ ap (λ n. n + 1) sofar.long;
  awaits = λ j m l at_j. elim (same_or_below j end l) [
    | inl e ↦ rw (sym (same j m e at_j), pushed_last j e) (subst (λ x. Awaits new id r.name r.width x) by awaits)
    | inr b ↦ rw (pushed_front j b) (keeps.awaits _ _ _ _ (sofar.awaits j m b at_j))
  ];
  nodes = λ j m l at_j. elim (same_or_below j end l) [
    | inl e ↦ rw (sym (same j m e at_j), pushed_last j e) (subst (λ x. IsNode new id r.width (λ v. under v.node x (v.kept r.name))) by node)
    | inr b ↦ rw (pushed_front j b) (IsNode-extends net new _ _ _ older (sofar.nodes j m b at_j))
  ];
}
  where
    low : end < length pins
    low = slice_get_within pins end r here

    assoc : (a c : ℕ) → a + c + 1 ≡ a + (c + 1)
    assoc a c = omega arith

    same : (j : ℕ) (m : Pin) → j ≡ end → slice_get pins j ≡ Some m → r ≡ m
    same j m e at_j = same_Some r m (sym here ∙ (ap (slice_get pins) (sym e) ∙ at_j))

    pushed_last : (j : ℕ) → j ≡ end → at ids' j ≡ id
    pushed_last j e = ap (λ xs. at xs j) pushed ∙ ap (at (ids ++ id ∷ [])) (e ∙ sym sofar.long) ∙ at_last ids id

    pushed_front : (j : ℕ) → j < end → at ids' j ≡ at ids j
    pushed_front j b = ap (λ xs. at xs j) pushed ∙ at_front ids id j (omega (arith, b, sofar.long))

-- all of them
pub all_added : (resetn : Id) (pins : List Pin) (first net : Net) (ids : List Id) (end : ℕ) → IsResetn first resetn → RowsTo resetn pins first net ids end → end ≡ length pins → AreCleared net resetn pins ids
all_added resetn pins first net ids end has sofar all = record {
  long = sofar.long ∙ all;
  awaits = λ k r here. let low : k < length pins = slice_get_within pins k r here in sofar.awaits k r (omega (arith, low, all)) here;
  nodes = λ k r here.
      let low : k < length pins = slice_get_within pins k r here in
      let node = sofar.nodes k r (omega (arith, low, all)) here in
      record { stands = node.stands; value = λ v s. node.value v s ∙ ap (λ x. if x == 0 then 0 else v.kept r.name) (has.node.value v (sofar.older.settles v s)) };
}

pub all_named : (pins : List Pin) (end : ℕ) → end ≡ length pins → take end pins ≡ pins
all_named pins end all = take_all end pins (omega (arith, all))

pub can_clear : (old net : Net) (resetn : Id) (w : ℕ) → Extends old net → IsResetn old resetn → 0 < 2 ^ w → CanReset net w (by_resetn resetn)
can_clear old net resetn w x h some = (codes "PRESETn", x.inputs resetn (codes "PRESETn") 1 h.input, refl, some)

pub power_some : (w : ℕ) → 0 < 2 ^ w
power_some zero = omega arith
power_some (suc w) = let h = power_some w in grind arith
