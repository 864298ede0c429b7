use Rattle.std.proofs.Common.{◌∙◌, not, Some, sym, ap, subst, arith}
use Rattle.rdl_values.specs.Elaborated.{nodes_of}
use Rattle.rdl_values.specs.Lineages.{lineages_of}
use Rattle.rdl_nodes.proofs.Members.{get-read}
use Rattle.rdl_block_numbers.specs.Numbers.{own_number}
use Rattle.rdl_reset_rules.specs.Nearest.{AreSignals, IsFirst, resets_of}
use Rattle.rdl_reset_rules.proofs.Nearing.{first-of, none-first, number-below, signal-number}
use Rattle.rdl_reset_rules.proofs.reset.resets.Goals as goal

pub returns-in_default : goal.returns-in_default
returns-in_default c = λ ns first sigs. let e = c.args.props.now in ap (resets_of (lineages_of e)) (sym (none-first e ns (subst (IsFirst e ns) c.in_default.is first)))

pub bounds-own-signal : goal.bounds-own-signal
bounds-own-signal c =
    let e = c.args.props.now in
    let k = c.in-Some.signal in
    let f = first-of e c.requires.signal.0 k (subst (IsFirst e c.requires.signal.0) c.in-Some.is c.requires.signal.1) in
    let low = number-below e c.requires.clean k f.0 f.3 in
    omega (arith, low, c.requires.own.many)

pub has-low-requires : goal.has-low-requires
has-low-requires c =
    let e = c.args.props.now in
    let k = c.in-Some.signal in
    let f = first-of e c.requires.signal.0 k (subst (IsFirst e c.requires.signal.0) c.in-Some.is c.requires.signal.1) in
    number-below e c.requires.clean k f.0 f.3

pub has-is_async-requires : goal.has-is_async-requires
has-is_async-requires c =
    let e = c.args.props.now in
    let k = c.in-Some.signal in
    let f = first-of e c.requires.signal.0 k (subst (IsFirst e c.requires.signal.0) c.in-Some.is c.requires.signal.1) in
    number-below e c.requires.clean k f.0 f.3

pub returns : goal.returns
returns c = λ ns first sigs.
    let e = c.args.props.now in
    let k = c.in-Some.signal in
    let f = first-of e ns k (subst (IsFirst e ns) c.in-Some.is first) in
    let n = f.0 in
    let low = number-below e c.requires.clean k n f.3 in
    let signal = (subst AreSignals f.2 sigs).0 in
    let number = get-read c.args.own.now k 0 (own_number (nodes_of e) n) (c.requires.own.each k n low f.3) ∙ signal-number e n signal in
    (λ i. record { signal = Some (number i); low = c.has-low.ensures n f.3 i; sync = not (c.has-is_async.ensures n f.3 i) }) ∙ ap (resets_of (lineages_of e)) (sym f.2)
