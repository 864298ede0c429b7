use Rattle.std.proofs.Common.{◌≡◌, ℕ, ◌<◌, List, get_or, length, Option, string_bytes, ap, ◌∙◌, subst, arith}
use Rattle.rb_edge.specs.Shelf.{Files}
use Rattle.replies.specs.declared.loading.Loaded.{Loaded}
use Rattle.replies.specs.Loaded.{IsLoaded, Stops}
use Rattle.replies.specs.Outcome.{FailedRead, IsRead, source_limit}
use Rattle.replies.specs.Checked.{bytes_of}
use Rattle.replies.proofs.Verdicts.{read-next, rose-later, stopped}
use Rattle.replies.proofs.checking.load_all.Goals as goal

pub returns-in-Stopped-clause-loaded : goal.returns-in-Stopped-clause-loaded
returns-in-Stopped-clause-loaded g c =
    let contents = g.S.Shelf.contents c.args.shelf.now in
    let middle = g.S.Shelf.contents c.loop-file.shelf in
    let failed = FailedRead g.S.Shelf.faults c.args.shelf.now c.load_file.new.shelf in
    let after = FailedRead g.S.Shelf.faults c.loop-file.shelf c.load_file.new.shelf in
    let files = c.args.files.now in
    let k = c.loop-file.file-index in
    let word = c.file-item.result in
    let answer = c.in-Stopped.answer in
    let within : k < length files = omega (arith, c.loop-file-test.true) in
    let name : c.as_str.result.now ≡ string_bytes (get_or files k word) = c.as_str.ensures.value ∙ ap string_bytes c.file-item.is in
    let loaded = subst (λ (l : Loaded). IsLoaded middle after c.as_str.result.now source_limit l) c.in-Stopped.is c.in_ok-source.ensures.loaded in
    let before = subst (λ (o : Option Files). Stops o after c.as_str.result.now source_limit answer) c.loop-file.invariant.unchanged loaded in
    let here = subst (λ (f : List ℕ). Stops contents after f source_limit answer) name before in
    stopped contents failed after files k word (bytes_of c.loop-file.sources.items) answer within c.loop-file.invariant.read
    (λ any rose. rose-later (g.S.Shelf.faults c.args.shelf.now any) (g.S.Shelf.faults c.loop-file.shelf any) (g.S.Shelf.faults c.load_file.new.shelf any) (c.loop-file.invariant.later any) rose) here

pub loop-file-preserved : goal.loop-file-preserved
loop-file-preserved g c =
    let contents = g.S.Shelf.contents c.args.shelf.now in
    let middle = g.S.Shelf.contents c.loop-file.shelf in
    let after = FailedRead g.S.Shelf.faults c.loop-file.shelf c.load_file.new.shelf in
    let files = c.args.files.now in
    let k = c.loop-file.file-index in
    let word = c.file-item.result in
    let source = c.in-Bytes.source in
    let within : k < length files = omega (arith, c.loop-file-test.true) in
    let name : c.as_str.result.now ≡ string_bytes (get_or files k word) = c.as_str.ensures.value ∙ ap string_bytes c.file-item.is in
    let loaded = subst (λ (l : Loaded). IsLoaded middle after c.as_str.result.now source_limit l) c.in-Bytes.is c.in_ok-source.ensures.loaded in
    let before = subst (λ (o : Option Files). IsRead o c.as_str.result.now source_limit source.items) c.loop-file.invariant.unchanged loaded in
    let here = subst (λ (f : List ℕ). IsRead contents f source_limit source.items) name before in
    record {
      read = read-next contents files k word c.loop-file.sources.items c.push.new.self.items source within c.in_ok-push-in-Bytes.ensures.items c.loop-file.invariant.read here;
      unchanged = c.load_file.ensures.unchanged ∙ c.loop-file.invariant.unchanged;
      later = λ any. let first = c.loop-file.invariant.later any in let then = c.load_file.ensures.later any in omega (arith, first, then);
    }
