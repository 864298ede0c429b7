use Rattle.std.proofs.Common.{◌≡◌, ℕ, ◌-◌, List, ◌++◌, length, take, drop, Option, refl, ◌∙◌, ap, sym, subst, arith, append-nil, length-take, length-drop}
use Rattle.rb_edge.specs.Shelf.{Files, Reads, Holds}
use Rattle.rb_edge.proofs.Front.{IsFront-more, IsFront-all}
use Rattle.rb_edge.proofs.Pieces.{behind_read}
use Rattle.rb_edge.proofs.shelf.load.Goals as goal

-- what the loop's read gave, of the contents at entry and from the length of the bytes on
read_on : (contents contents' : Option Files) (name bytes buffer : List ℕ) (at n : ℕ) → contents' ≡ contents → at ≡ length bytes → Reads contents' name at buffer n
    → Reads contents name (length bytes) buffer n
read_on contents contents' name bytes buffer at n same is reads =
    let P : Option Files → Type 0 = λ o. Reads o name (length bytes) buffer n in
    let Q : ℕ → Type 0 = λ k. Reads contents' name k buffer n in
    subst P same (subst Q is reads)

-- how long the tail was that was lent
tail_length : (tail lent : List ℕ) (n len : ℕ) → length tail ≡ length (take (length lent - n) (drop n lent)) → length lent ≡ len → length tail ≡ len - n
tail_length tail lent n len is long = omega (arith, is, long, length-take (length lent - n) (drop n lent), length-drop n lent)

pub returns-then-count-eq0-clause-whole : goal.returns-then-count-eq0-clause-whole
returns-then-count-eq0-clause-whole g c =
    let contents = g.S.Shelf.contents c.args.shelf.now in
    let front = c.loop-bytes.bytes.items in
    let tail = c.read.new.into in
    let n = c.in_ok-count.count in
    let lent = c.deref_mut.result.now in
    let room : length tail ≡ c.end_of_piece.result - c.len-len.result = tail_length tail lent c.len-len.result c.end_of_piece.result c.read.auto.into (omega (arith, c.deref_mut.ensures.len, c.in_ok-resize.ensures.len)) in
    let new : c.truncate.new.self.items ≡ front ++ take n tail = behind_read front _ c.resize.new.self.items lent tail _ _ c.truncate.new.self.items c.len-len.result n c.end_of_piece.result c.resize.new.self.len (omega arith) (omega arith) c.in_ok-resize.ensures.items c.deref_mut.ensures.value c.in_ok-count.ensures.count (omega (arith, room, c.in_ok-count.ensures.count, c.in_ok-resize.ensures.len)) c.truncate.ensures.items in
    let reads = read_on contents _ c.args.name.now front tail _ n c.loop-bytes.invariant.unchanged (omega arith) c.in_ok-count.ensures.bytes in
    let held = IsFront-all contents c.args.name.now front tail n c.loop-bytes.invariant.front reads c.if-count-eq0.true (omega (arith, room)) in
    let same : c.truncate.new.self.items ≡ front = new ∙ ap (λ k. front ++ take k tail) c.if-count-eq0.true ∙ append-nil front in
    subst (λ bytes. Holds contents c.args.name.now bytes) (sym same) held

pub loop-bytes-preserved : goal.loop-bytes-preserved
loop-bytes-preserved g c =
    let contents = g.S.Shelf.contents c.args.shelf.now in
    let front = c.loop-bytes.bytes.items in
    let tail = c.read.new.into in
    let n = c.in_ok-count.count in
    let lent = c.deref_mut.result.now in
    let room : length tail ≡ c.end_of_piece.result - c.len-len.result = tail_length tail lent c.len-len.result c.end_of_piece.result c.read.auto.into (omega (arith, c.deref_mut.ensures.len, c.in_ok-resize.ensures.len)) in
    let new : c.truncate.new.self.items ≡ front ++ take n tail = behind_read front _ c.resize.new.self.items lent tail _ _ c.truncate.new.self.items c.len-len.result n c.end_of_piece.result c.resize.new.self.len (omega arith) (omega arith) c.in_ok-resize.ensures.items c.deref_mut.ensures.value c.in_ok-count.ensures.count (omega (arith, room, c.in_ok-count.ensures.count, c.in_ok-resize.ensures.len)) c.truncate.ensures.items in
    let reads = read_on contents _ c.args.name.now front tail _ n c.loop-bytes.invariant.unchanged (omega arith) c.in_ok-count.ensures.bytes in
    record {
      within = omega arith;
      most = refl;
      front = IsFront-more contents c.args.name.now front tail _ n c.loop-bytes.invariant.front reads c.in_ok-count.ensures.count new;
      unchanged = c.read.ensures.unchanged ∙ c.loop-bytes.invariant.unchanged;
      later = λ any. omega (arith, c.loop-bytes.invariant.later any, c.read.ensures.later any);
    }
