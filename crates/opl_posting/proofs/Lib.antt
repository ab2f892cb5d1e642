mod Behind
mod ItemForms
mod NodesBefore
mod Objectives
mod OneConstraint
mod Whole
