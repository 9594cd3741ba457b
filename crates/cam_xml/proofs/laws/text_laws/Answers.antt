-- The laws of text.
use Rattle.cam_xml.proofs.Text.{escaped_is_text, numbers_are_text}
use Rattle.cam_xml.proofs.laws.text_laws.Goals as goal

pub returns-clause-escaped : goal.returns-clause-escaped
returns-clause-escaped c = escaped_is_text

pub returns-clause-numbers : goal.returns-clause-numbers
returns-clause-numbers c = numbers_are_text
