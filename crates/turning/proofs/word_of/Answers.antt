use Rattle.turning.specs.Words.{env_of}
use borrow.Author.Rules.{rules}
use Rattle.turning.proofs.word_of.Goals as goal

pub returns : goal.returns
unfolding env_of
returns c = search rules
