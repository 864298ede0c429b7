use Rattle.rdl_notes.proofs.Top.{top-low}
use Rattle.rdl_notes.proofs.Whole.{notes-of-props}
use Rattle.rdl_notes.proofs.tree.notes_of.Goals as goal

pub note_at-top-requires : goal.note_at-top-requires
note_at-top-requires c = top-low c.args.elab.now c.args.props.now c.requires.props c.requires.clean

pub returns : goal.returns
returns c = λ wanted h encoded.
    let e = c.args.elab.now in
    notes-of-props e c.args.props.now c.requires.props c.requires.clean c.args.encodings.now _
    (record { top_ = c.note_at-top.ensures; regs_ = c.in_ok-regs.ensures; views_ = c.in_ok-views.ensures; signals_ = c.in_ok-signals.ensures; groups_ = c.in_ok-groups.ensures; enums_ = c.in_ok-enums.ensures })
    wanted (c.name_decides_the_top.ensures.top wanted e.source.now e h) encoded
