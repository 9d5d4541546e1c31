use Rattle.members.proofs.CodeLaws.{facts_of}
use Rattle.environments.proofs.UnderLaws as laws
use Rattle.environments.proofs.infer_under.Goals as goal

pub fill-requires : goal.fill-requires
fill-requires c =
    record {
      within_layout = (c.args.code.now.script.within_layout, facts_of c.args.code.now.facts_are, c.requires.blank.0.size, c.requires.blank.0.zeros);
      chain = (c.requires.chain.0, c.requires.chain.1);
    }

pub infer-r-requires : goal.infer-r-requires
infer-r-requires c =
    laws.at_node c.requires.blank.0 c.requires.chain.2 c.fill.ensures.filled _ c.fill.ensures.table_len_unchanged c.requires.blank.1

pub returns : goal.returns
returns c =
    record {
      given_in = c.infer-r.ensures.given_as _ (laws.environment c.requires.blank.0 c.requires.chain.2 c.fill.ensures.filled);
      table_unchanged = laws.zeros_again c.requires.blank.0 c.fill.ensures.table_len_unchanged c.infer-r.ensures.env_unchanged c.empty.ensures.table_len_unchanged c.empty.ensures.all_zero;
    }
