use Rattle.std.proofs.Common.{◌≡◌, ℕ, ◌<◌, ◌≤◌, List, Vec, Global, get_or, length, option_copied, string_bytes, ap, sym, ◌∙◌, subst, arith}
use Rattle.replies.specs.Outcome.{source_limit}
use Rattle.replies.specs.Checked.{IsOneMore}
use Rattle.replies.proofs.Verdicts.{checked-more}
use Rattle.replies.proofs.checking.check_sources.Goals as goal

pub add_verdict-requires : goal.add_verdict-requires
add_verdict-requires c =
    let sources = c.args.sources.now in
    let k = c.loop-at.at in
    let v = c.index-sources-at.result in
    let within : k < length sources = omega (arith, c.requires.each, c.loop-at-test.true) in
    let short = c.requires.short k v within in
    let same : c.deref.result.now ≡ (get_or sources k v).items = c.deref.ensures.value ∙ ap (λ (x : Vec ℕ Global). x.items) c.index-sources-at.is in
    subst (λ (xs : List ℕ). length xs ≤ source_limit) (sym same) short

pub loop-at-preserved : goal.loop-at-preserved
loop-at-preserved c =
    let top = option_copied c.args.top in
    let files = c.args.files.now in
    let sources = c.args.sources.now in
    let k = c.loop-at.at in
    let w = c.index-files-at.result in
    let v = c.index-sources-at.result in
    let old = c.loop-at.answer in
    let new = c.add_verdict.new.answer in
    let within : k < length files = omega (arith, c.loop-at-test.true) in
    let name : c.as_str.result.now ≡ string_bytes (get_or files k w) = c.as_str.ensures.value ∙ ap string_bytes c.index-files-at.is in
    let same : c.deref.result.now ≡ (get_or sources k v).items = c.deref.ensures.value ∙ ap (λ (x : Vec ℕ Global). x.items) c.index-sources-at.is in
    let one = subst (λ (s : List ℕ). IsOneMore top c.as_str.result.now s old new) same c.in_ok-add_verdict.ensures in
    checked-more top files sources k w v old new c.requires.each within c.loop-at.invariant (subst (λ (f : List ℕ). IsOneMore top f (get_or sources k v).items old new) name one)
