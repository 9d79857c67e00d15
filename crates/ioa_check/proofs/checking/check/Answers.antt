use Rattle.ioa_source.specs.TextView.{text_of}
use Rattle.ioa_check.proofs.Promises.{promised_system, promised_once, promised_none}
use Rattle.ioa_check.proofs.checking.check.Goals as goal

pub returns-clause-system : goal.returns-clause-system
returns-clause-system c = promised_system (text_of c.args.text.now) c.find_system.result c.find_system.ensures

pub returns-clause-declared : goal.returns-clause-declared
returns-clause-declared c = promised_once (text_of c.args.text.now) c.find_system.result c.find_system.ensures

pub returns-clause-refused : goal.returns-clause-refused
returns-clause-refused c = promised_none (text_of c.args.text.now) c.find_system.result c.find_system.ensures
