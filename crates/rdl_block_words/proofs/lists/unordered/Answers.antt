use Rattle.std.proofs.Common.{◌∙◌, ◌++◌, ◌+◌, ◌<◌, not, drop, filter, flat_map, length, sym, ap, subst, arith}
use Rattle.rdl_addr.specs.Bits.{bits_of}
use Rattle.rdl_addr.specs.Layout.{Placed}
use Rattle.rdl_rules.specs.Numbers.{numbered}
use Rattle.rdl_rules.specs.Words.{words_of}
use Rattle.rdl_sizes.proofs.Turns.{read-at}
use Rattle.std.specs.BTreeSet.{contains}
use Rattle.std.specs.Ordering.{nat_cmp}
use Rattle.rdl_fields.specs.Views.{AreViewsOf}
use Rattle.rdl_block_words.specs.Access.{words_for}
use Rattle.rdl_block_words.proofs.Entered.{entries-many}
use Rattle.rdl_block_words.proofs.Masked.{all-done, entry-at, kept-by, kept-more, keeps, masked-more}
use Rattle.rdl_block_words.proofs.lists.unordered.Goals as goal
use Rattle.rdl_block_words.proofs.lists.unordered.Goals.{then-not-is_masked+in_ok-add_words, else-not-is_masked}

pub add_words-requires-clause-fits : goal.add_words-requires-clause-fits
add_words-requires-clause-fits c =
    let xs = c.args.entries.now in
    let i = c.loop-entry.entry-index in
    let x = c.entry-item.result in
    let r = entry-at c.requires.0 xs (numbered (λ (p : Placed). p.node) c.requires.1) c.requires.2 i x (read-at xs i x c.loop-entry-test.true c.entry-item.is) in
    r.2.fits

pub add_words-requires-clause-numbers : goal.add_words-requires-clause-numbers
add_words-requires-clause-numbers c =
    let xs = c.args.entries.now in
    let i = c.loop-entry.entry-index in
    let x = c.entry-item.result in
    let r = entry-at c.requires.0 xs (numbered (λ (p : Placed). p.node) c.requires.1) c.requires.2 i x (read-at xs i x c.loop-entry-test.true c.entry-item.is) in
    subst (λ vs. x.shape.first_view + length vs < 4294967296) (sym c.deref.ensures.value) r.2.numbers

pub loop-entry-preserved : goal.loop-entry-preserved
loop-entry-preserved c = λ e ps all.
    let xs = c.args.entries.now in
    let i = c.loop-entry.entry-index in
    let x = c.entry-item.result in
    let rs = numbered (λ (p : Placed). p.node) ps in
    let r = entry-at e xs rs all i x (read-at xs i x c.loop-entry-test.true c.entry-item.is) in
    let keep = kept-by e c.args.access xs ps x r.0 all r.2 (contains nat_cmp c.in_ok-taken.taken x.shape.address) c.is_masked.result (c.in_ok-taken.ensures x.shape.address) c.is_masked.ensures in
    let before = c.loop-entry.invariant e ps all in
    elim c.if-not-is_masked.branch [
      | then-not-is_masked+in_ok-add_words w ↦
          let put = w.in_ok-add_words.ensures e r.0 r.2.shape_ (subst (λ vs. AreViewsOf e vs (bits_of r.0.register.node)) (sym w.deref.ensures.value) r.2.views_) in
          kept-more (keeps c.args.access ps) rs i c.loop-entry.words.items (words_for c.args.access ps) before r.0 c.if-not-is_masked.words.items r.1 (keep ∙ ap not w.if-not-is_masked.true) ((λ j. (w.words-is j).items) ∙ put)
      | else-not-is_masked w ↦
          (λ j. (w.words-is j).items ++ flat_map words_of (filter (keeps c.args.access ps) (drop (i + 1) rs))) ∙ masked-more (keeps c.args.access ps) rs i c.loop-entry.words.items (words_for c.args.access ps) before r.0 r.1 (keep ∙ ap not w.if-not-is_masked.false)
    ]

pub returns : goal.returns
returns c = λ e ps all.
    let rs = numbered (λ (p : Placed). p.node) ps in
    let many = entries-many e c.args.entries.now rs all in
    all-done (keeps c.args.access ps) rs c.loop-entry.entry-index c.loop-entry.words.items (words_for c.args.access ps) (c.loop-entry.invariant e ps all) (let past = c.loop-entry-test.false in omega (arith, many, past))
