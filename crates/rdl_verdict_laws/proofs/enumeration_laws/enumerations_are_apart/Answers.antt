use Rattle.rdl_verdict_laws.proofs.EntryTokens.{derived_entries}
use Rattle.rdl_verdict_laws.proofs.EnumsApart.{source-apart}
use Rattle.rdl_verdict_laws.proofs.enumeration_laws.enumerations_are_apart.Goals as goal

pub returns : goal.returns
returns c = λ wanted text s waits b reads clean is. source-apart wanted s b (derived_entries reads.tokens s.items.now (c.spelled_in_order.ensures.words text reads.tokens reads.spelled) reads.derived) clean is.fields_
