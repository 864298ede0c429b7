use Rattle.std.proofs.Common.{◌≡◌, ℕ, ◌-◌, ◌+◌, ◌<◌, length, take, drop, get_or, sym, subst, ◌∙◌, arith}
use Rattle.std.proofs.lemmas.List.{get_or_default}
use Rattle.sim_lanes.specs.Due.{IsAmong, IsReader}
use Rattle.sim_lanes.proofs.Fans.{among_readers, reader_among}
use Rattle.sim_lanes.proofs.fan.Fan.readers_of.Goals as goal
use Rattle.sim_lanes.proofs.fan.Fan.readers_of.Goals.{After-result-1}

start : (c : After-result-1) → c.index.result.now ≡ get_or c.args.self.now.starts.items c.args.place 0
start c = let xs = c.args.self.now.starts in c.index.ensures ∙ get_or_default xs.items c.args.place c.index.result.now 0 (omega (arith, c.len.ensures, c.if-place-len.true, xs.ok.0))

stop : (c : After-result-1) → c.index-then-len-place-gt1.result.now ≡ get_or c.args.self.now.starts.items (c.args.place + 1) 0
stop c =
    let xs = c.args.self.now.starts in
    c.index-then-len-place-gt1.ensures
    ∙ get_or_default xs.items (c.args.place + 1) c.index-then-len-place-gt1.result.now 0 (omega (arith, c.len-then-place-len.ensures, c.if-len-place-gt1.true, xs.ok.0))

pub returns-then-end-len-clause-all : goal.returns-then-end-len-clause-all
returns-then-end-len-clause-all c = λ operation reads.
    let from = c.index.result.now in
    let end = c.index-then-len-place-gt1.result.now in
    subst (λ xs. IsAmong (take (end - from) (drop from xs)) operation) (sym c.deref.ensures.value) (among_readers c.args.self.now c.args.place operation from end (start c) (stop c) reads)

pub returns-then-end-len-clause-each : goal.returns-then-end-len-clause-each
returns-then-end-len-clause-each c =
    let s = c.args.self.now in
    let from = c.index.result.now in
    let end = c.index-then-len-place-gt1.result.now in
    subst (λ xs. (i : ℕ) → i < length (take (end - from) (drop from xs)) → IsReader s c.args.place (get_or (take (end - from) (drop from xs)) i 0)) (sym c.deref.ensures.value)
    (λ i low. reader_among s c.args.place from end i (start c) (stop c) (omega (arith, c.len-then-place-len.ensures, c.if-len-place-gt1.true, s.starts.ok.0)) (omega (arith, c.len-then-from-end.ensures, s.readers.ok.0)) low)
