-- decode_pcf8532: the ranges and the gaps between them are twelve stretches, each told as its first byte is.
-- Assumes nothing.
use mathlib.Core.Path.{refl, ◌∙◌}
use native.Mathlib.Omega.{arith}
use Rattle.sheet.specs.Parts.{within, pcf8532_ranges}
use Rattle.laws.proofs.Stretches.{stretch}
use borrow.Author.Rules.{rules}
use Rattle.decode.proofs.decode_pcf8532.Goals as goal

pub returns-in-64-to-79 : goal.returns-in-64-to-79
unfolding within
returns-in-64-to-79 c = stretch pcf8532_ranges 64 79 _ (omega arith) (omega arith) refl

pub returns-in-192-to-207 : goal.returns-in-192-to-207
unfolding within
returns-in-192-to-207 c = c.mode_set.ensures ∙ stretch pcf8532_ranges 192 207 _ (omega arith) (omega arith) refl

pub returns-in-224-to-227 : goal.returns-in-224-to-227
unfolding within
returns-in-224-to-227 c = stretch pcf8532_ranges 224 227 _ (omega arith) (omega arith) refl

pub returns-in-232-to-239 : goal.returns-in-232-to-239
unfolding within
returns-in-232-to-239 c = stretch pcf8532_ranges 232 239 _ (omega arith) (omega arith) refl

pub returns-in-240-to-247 : goal.returns-in-240-to-247
unfolding within
returns-in-240-to-247 c = c.blink_select.ensures ∙ stretch pcf8532_ranges 240 247 _ (omega arith) (omega arith) refl

pub returns-in-248-to-251 : goal.returns-in-248-to-251
unfolding within
returns-in-248-to-251 c = c.bank_select.ensures ∙ stretch pcf8532_ranges 248 251 _ (omega arith) (omega arith) refl

pub returns-in_default : goal.returns-in_default
unfolding within
returns-in_default c = stretch pcf8532_ranges 10 63 _ (omega arith) (omega arith) refl

pub returns-in_default-2 : goal.returns-in_default-2
unfolding within
returns-in_default-2 c = stretch pcf8532_ranges 80 191 _ (omega arith) (omega arith) refl

pub returns-in_default-3 : goal.returns-in_default-3
unfolding within
returns-in_default-3 c = stretch pcf8532_ranges 208 223 _ (omega arith) (omega arith) refl

pub returns-in_default-4 : goal.returns-in_default-4
unfolding within
returns-in_default-4 c = stretch pcf8532_ranges 228 231 _ (omega arith) (omega arith) refl

pub returns-in_default-5 : goal.returns-in_default-5
unfolding within
returns-in_default-5 c = stretch pcf8532_ranges 252 255 _ (omega arith) (omega arith) refl
