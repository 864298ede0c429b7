-- The operations that stand at a place of a fan.
use Rattle.std.proofs.Common.{◌≡◌, ℕ, ◌+◌, ◌-◌, ◌<◌, ◌≤◌, length, take, drop, get_or, ap, sym, ◌∙◌, arith}
use Rattle.std.proofs.lemmas.List.{get_or-drop, get_or-take, length-drop, length-take}
use Rattle.sim_lanes.specs.Due.{IsAmong, IsReader}
use Rattle.sim_lanes.specs.declared.fan.Fan.{Fan}

pub among_readers : (fan : Fan) (place operation from end : ℕ) → from ≡ get_or fan.starts.items place 0 → end ≡ get_or fan.starts.items (place + 1) 0 → IsReader fan place operation → IsAmong (take (end - from) (drop from fan.readers.items)) operation
among_readers fan place operation from end start stop r =
    let readers = fan.readers.items in
    let here : from + (r.index - from) ≡ r.index = omega (arith, start, r.from) in
    record {
      index = r.index - from;
      below = omega (arith, start, stop, r.from, r.below, r.within, length-take (end - from) (drop from readers), length-drop from readers);
      is = get_or-take (end - from) (drop from readers) (r.index - from) 0 (omega (arith, start, stop, r.from, r.below))
          ∙ (get_or-drop from readers (r.index - from) 0 ∙ (ap (λ n. get_or readers n 0) here ∙ r.is));
    }

pub reader_among : (fan : Fan) (place from end i : ℕ) → from ≡ get_or fan.starts.items place 0 → end ≡ get_or fan.starts.items (place + 1) 0 → place + 1 < length fan.starts.items → end ≤ length fan.readers.items → i < length (take (end - from) (drop from fan.readers.items))
    → IsReader fan place (get_or (take (end - from) (drop from fan.readers.items)) i 0)
reader_among fan place from end i start stop placed within low =
    let readers = fan.readers.items in
    let small : i < end - from = omega (arith, low, length-take (end - from) (drop from readers)) in
    record {
      index = from + i;
      placed = placed;
      from = omega (arith, start);
      below = omega (arith, stop, small);
      within = omega (arith, stop, within);
      is = sym (get_or-take (end - from) (drop from readers) i 0 small ∙ get_or-drop from readers i 0);
    }
