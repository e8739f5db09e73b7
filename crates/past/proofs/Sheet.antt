-- What the past says of every row of specs/Sheet.antt, and of the sample run, by computing. Assumes nothing.
use mathlib.Core.Path.{◌≡◌, refl}
use mathlib.Core.List.{[], map}
use Rattle.past.specs.Answers.{answers_by}
use Rattle.past.specs.Sheet.{Row, told, settings, partitions, words, reports, hosts, noticing, credits, limits, sequences}
use Rattle.past.specs.Sheet.{Link, found, links, all_at, sample, sample_answers}
use Rattle.past.proofs.Computing.{telling}

pub sample_told : answers_by (all_at 0) [] sample ≡ sample_answers
unfolding telling
sample_told = refl

pub links_found : map found links ≡ map (λ (w : Link). w.passes) links
unfolding telling
links_found = refl

pub settings_told : map told settings ≡ map (λ (w : Row). w.wanted) settings
unfolding telling
settings_told = refl

pub partitions_told : map told partitions ≡ map (λ (w : Row). w.wanted) partitions
unfolding telling
partitions_told = refl

pub words_told : map told words ≡ map (λ (w : Row). w.wanted) words
unfolding telling
words_told = refl

pub reports_told : map told reports ≡ map (λ (w : Row). w.wanted) reports
unfolding telling
reports_told = refl

pub hosts_told : map told hosts ≡ map (λ (w : Row). w.wanted) hosts
unfolding telling
hosts_told = refl

pub noticing_told : map told noticing ≡ map (λ (w : Row). w.wanted) noticing
unfolding telling
noticing_told = refl

pub credits_told : map told credits ≡ map (λ (w : Row). w.wanted) credits
unfolding telling
credits_told = refl

pub limits_told : map told limits ≡ map (λ (w : Row). w.wanted) limits
unfolding telling
limits_told = refl

pub sequences_told : map told sequences ≡ map (λ (w : Row). w.wanted) sequences
unfolding telling
sequences_told = refl
