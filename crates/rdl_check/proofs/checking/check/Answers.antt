use Rattle.rdl_check.proofs.checking.check.Goals as goal

pub returns-in-Ok-describe : goal.returns-in-Ok-describe
returns-in-Ok-describe c =
    let e = c.args.elab.now in
    let none = c.in_default.ensures in
    let primaries = c.aliases_have_primaries.ensures e c.in-Ok.rows.items c.requires.ready.clean c.in-Ok.ensures in
    let block = c.in-Ok-describe.ensures in
    let sound = c.blocks_are_sound.ensures e c.in-Ok-describe.block c.requires.ready c.requires.forms none primaries block in
    record {
      answers = record { clean = none; block = block; sound = sound };
      apart = c.words_are_apart.ensures e c.in-Ok-describe.block c.requires.ready none block sound;
    }
